-- What holds of a value that a call may give, and of a number that isn't 0.
use Rattle.std.proofs.Common.{◌≡◌, ℕ, ◌≤◌, true, false, true≢false, Option, None, Some, IfSome, sym, subst, arith, inl, inr}
use Rattle.std.proofs.lemmas.Bool.{cases_lt}

-- what holds of the one value that there may be holds where there is one
pub IfSome-value : {X : Type 0} (P : X → Type 0) (r : Option X) (v : X) → IfSome r (λ x. x ≡ v) → P v → IfSome r P
IfSome-value P None v h p = tt
IfSome-value P (Some x) v h p = subst P (sym h) p

-- and the value is that one
pub value-IfSome : {X : Type 0} (r : Option X) (x v : X) → r ≡ Some x → IfSome r (λ y. y ≡ v) → x ≡ v
value-IfSome r x v e h = subst (λ o. IfSome o (λ y. y ≡ v)) e h

-- a number that isn't 0 is at least 1
pub positive : (n : ℕ) → (n ≡ 0 → true ≡ false) → 1 ≤ n
positive n h = elim (cases_lt 0 n) [ inl some ↦ omega arith | inr none ↦ absurd (true≢false (h (omega arith))) ]

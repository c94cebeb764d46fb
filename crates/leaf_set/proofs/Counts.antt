-- A count of one: exactly one element of a list passes a test.
use Rattle.std.proofs.Common.{◌≡◌, ℕ, zero, suc, ◌+◌, ◌≤◌, Bool, true, false, cond, refl, sym, ap, subst, arith, List, [], ◌∷◌, Some, slice_get, count_by, inl, inr}
use Rattle.std.proofs.lemmas.List.Sums.{sum_by-cons}
use Rattle.std.proofs.lemmas.Bool.{cond-true, cond-false, false_from_ne_true, cases_Bool}
use Rattle.std.proofs.lemmas.Option.{same_Some, none-some}

count_by-cons : {A : Type 0} (p : A → Bool) (x : A) (xs : List A) → count_by p (x ∷ xs) ≡ cond (p x) 1 0 + count_by p xs
count_by-cons p x xs = sum_by-cons (λ y. cond (p y) 1 0) x xs

pub count-none : {A : Type 0} (p : A → Bool) (xs : List A) → ((i : ℕ) (x : A) → slice_get xs i ≡ Some x → p x ≡ true → ⊥) → count_by p xs ≡ 0
count-none p [] h = refl
count-none p (y ∷ ys) h =
    omega (arith, count_by-cons p y ys, cond-false {A = ℕ} (p y) 1 0 (false_from_ne_true (p y) (h zero y refl)), count-none p ys (λ i x. h (suc i) x))

-- what passes is counted
pub count-some : {A : Type 0} (p : A → Bool) (xs : List A) (i : ℕ) (x : A) → slice_get xs i ≡ Some x → p x ≡ true → 1 ≤ count_by p xs
count-some p [] i x e t = absurd (none-some x e)
count-some p (y ∷ ys) zero x e t =
    omega (arith, count_by-cons p y ys, cond-true {A = ℕ} (p y) 1 0 (subst (λ q. p q ≡ true) (sym (same_Some y x e)) t))
count-some p (y ∷ ys) (suc i) x e t = omega (arith, count_by-cons p y ys, count-some p ys i x e t)

-- a count above zero has an element that passes
pub count-found : {A : Type 0} (p : A → Bool) (xs : List A) → 1 ≤ count_by p xs → (i : ℕ) × (x : A) × (slice_get xs i ≡ Some x) × (p x ≡ true)
count-found p [] h = absurd (omega arith)
count-found p (y ∷ ys) h =
    elim (cases_Bool (p y)) [
      | inl t ↦ (zero, y, refl, t)
      | inr f ↦
          let m = count-found p ys (omega (arith, count_by-cons p y ys, cond-false {A = ℕ} (p y) 1 0 f)) in
          (suc m.0, m.1, m.2, m.3)
    ]

-- where at most one is counted, no two places pass
pub count-same : {A : Type 0} (p : A → Bool) (xs : List A) → count_by p xs ≤ 1 → (i j : ℕ) (x y : A) → slice_get xs i ≡ Some x → slice_get xs j ≡ Some y → p x ≡ true → p y ≡ true → i ≡ j
count-same p [] h i j x y e f s t = absurd (none-some x e)
count-same p (z ∷ zs) h zero zero x y e f s t = refl
count-same p (z ∷ zs) h zero (suc j) x y e f s t =
    absurd (omega (arith, count_by-cons p z zs, cond-true {A = ℕ} (p z) 1 0 (subst (λ q. p q ≡ true) (sym (same_Some z x e)) s), count-some p zs j y f t))
count-same p (z ∷ zs) h (suc i) zero x y e f s t =
    absurd (omega (arith, count_by-cons p z zs, cond-true {A = ℕ} (p z) 1 0 (subst (λ q. p q ≡ true) (sym (same_Some z y f)) t), count-some p zs i x e s))
count-same p (z ∷ zs) h (suc i) (suc j) x y e f s t =
    ap suc (count-same p zs (omega (arith, count_by-cons p z zs)) i j x y e f s t)

-- one place that passes, and no other
pub count-one : {A : Type 0} (p : A → Bool) (xs : List A) (i : ℕ) (x : A) → slice_get xs i ≡ Some x → p x ≡ true → ((j : ℕ) (y : A) → slice_get xs j ≡ Some y → p y ≡ true → j ≡ i) → count_by p xs ≡ 1
count-one p [] i x e t h = absurd (none-some x e)
count-one p (z ∷ zs) zero x e t h =
    omega (arith, count_by-cons p z zs, cond-true {A = ℕ} (p z) 1 0 (subst (λ q. p q ≡ true) (sym (same_Some z x e)) t), count-none p zs (λ j y f u. let k : suc j ≡ zero = h (suc j) y f u in omega arith))
count-one p (z ∷ zs) (suc i) x e t h =
    let none : p z ≡ false = false_from_ne_true (p z) (λ u. let k : zero ≡ suc i = h zero z refl u in omega arith) in
    omega (arith, count_by-cons p z zs, cond-false {A = ℕ} (p z) 1 0 none, count-one p zs i x e t (λ j y f u. let k : suc j ≡ suc i = h (suc j) y f u in omega arith))

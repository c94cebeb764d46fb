-- Lists that are written position by position.
use Rattle.std.proofs.Common.{◌≡◌, ℕ, zero, suc, ◌+◌, ◌<◌, sym, ap, ◌∙◌, arith, add-one, List, get_or, length, get_or-set_other, get_or-set_same, inl, inr}
use Rattle.std.proofs.Math.ListN.{set}
use Rattle.std.proofs.lemmas.Bool.{cases_eq}

-- one number more
pub written-more : (P : ℕ → ℕ) (xs : List ℕ) (i v : ℕ) → i < length xs → ((k : ℕ) → k < i → get_or xs k 0 ≡ P k) → v ≡ P i → (k : ℕ) → k < i + 1 → get_or (set xs i v) k 0 ≡ P k
written-more P xs i v long before here k h =
    elim (cases_eq k i) [
      | inl e ↦ ap (λ j. get_or (set xs i v) j 0) e ∙ get_or-set_same xs i v 0 long ∙ here ∙ ap P (sym e)
      | inr other ↦ get_or-set_other xs i k v 0 other ∙ before k (omega arith)
    ]

-- the same one position further on
pub written-next : (P : ℕ → ℕ) (xs : List ℕ) (i v : ℕ) → i + 1 < length xs → ((k : ℕ) → k < i → get_or xs (k + 1) 0 ≡ P k) → v ≡ P i → (k : ℕ) → k < i + 1 → get_or (set xs (i + 1) v) (k + 1) 0 ≡ P k
written-next P xs i v long before here k h =
    elim (cases_eq k i) [
      | inl e ↦ ap (λ j. get_or (set xs (i + 1) v) (j + 1) 0) e ∙ get_or-set_same xs (i + 1) v 0 long ∙ here ∙ ap P (sym e)
      | inr other ↦ get_or-set_other xs (i + 1) (k + 1) v 0 (omega arith) ∙ before k (omega arith)
    ]

-- a list with a number in front, some in the middle and one at the end
pub written-ends : (P : ℕ → ℕ) (xs : List ℕ) (n low high : ℕ) → n + 1 < length xs → get_or xs 0 0 ≡ low → low ≡ P 0 → ((k : ℕ) → k < n → get_or xs (k + 1) 0 ≡ P (suc k)) → high ≡ P (suc n) → (x : ℕ) → x < n + 2 → get_or (set xs (n + 1) high) x 0 ≡ P x
written-ends P xs n low high long first front middle last zero h = get_or-set_other xs (n + 1) 0 high 0 (omega arith) ∙ first ∙ front
written-ends P xs n low high long first front middle last (suc k) h =
    ap (λ j. get_or (set xs (n + 1) high) j 0) (sym (add-one k))
    ∙ written-next (λ k. P (suc k)) xs n high long middle last k (omega arith)

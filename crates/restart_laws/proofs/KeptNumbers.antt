-- Lists of four numbers of which a file keeps the first ones.
use Rattle.std.proofs.Common.{◌≡◌, ℕ, zero, suc, ◌≤◌, List, [], ◌∷◌, length, take, refl, sym, ◌∙◌, arith, inl, inr}
use Rattle.std.specs.Prelude.{slice_index}
use Rattle.std.proofs.lemmas.Bool.{cases_lt}
use Rattle.std.proofs.lemmas.List.{get_or-take, length-take}
use Rattle.amount_ledger.specs.Ledgers.{for_each}
use Rattle.checkpoint.specs.SavedStates.{AreZeroFrom}
use Rattle.run_core.proofs.FieldLists.{for_each-same}

-- a list of four numbers, number by number
pub of_four : (l : List ℕ) → length l ≡ 4 → l ≡ for_each (λ f. slice_index l f)
of_four [] e = absurd (omega (arith, e))
of_four (a ∷ []) e = absurd (omega (arith, e))
of_four (a ∷ b ∷ []) e = absurd (omega (arith, e))
of_four (a ∷ b ∷ c ∷ []) e = absurd (omega (arith, e))
of_four (a ∷ b ∷ c ∷ d ∷ []) e = refl
of_four (a ∷ b ∷ c ∷ d ∷ x ∷ l) e = absurd (omega (arith, e))

-- past its end a list holds nothing
pub past-end : (l : List ℕ) (f : ℕ) → length l ≤ f → slice_index l f ≡ 0
past-end [] f short = refl
past-end (x ∷ l) zero short = absurd (omega (arith, short))
past-end (x ∷ l) (suc f) short = past-end l f (omega (arith, short))

-- what a file keeps of numbers that are 0 behind the first ones
pub kept-same : (k : ℕ) (l : List ℕ) → length l ≡ 4 → AreZeroFrom k l → for_each (λ f. slice_index (take k l) f) ≡ l
kept-same k l four zeros =
    for_each-same (λ f. slice_index (take k l) f) (λ f. slice_index l f)
    (λ f w. elim (cases_lt f k) [
      | inl below ↦ get_or-take k l f 0 below
      | inr above ↦ past-end (take k l) f (omega (arith, above, length-take k l)) ∙ sym (zeros f above)
    ])
    ∙ sym (of_four l four)

-- What a seat found held, and what it gave back.
use Rattle.std.specs.Prelude.{◌≡◌, ℕ, suc, ◌<◌, nat_eq, cond, List, [], ◌∷◌, Some, slice_get}
use Rattle.quiet_table.specs.declared.view.Hand.{Hand}
use Rattle.quiet_table.specs.declared.view.Find.{Find}

-- how often another seat's number was found in the slot's word
abbrev pub finds_of : ℕ → List Find → ℕ
finds_of k [] = 0
finds_of k (f ∷ fs) = cond (nat_eq f.slot k) (suc (finds_of k fs)) (finds_of k fs)

-- it was found once more between two moments
abbrev pub FoundHeld : ℕ → List Find → List Find → Type 0
FoundHeld k before now = finds_of k before < finds_of k now

-- one of these is the slot, given back
abbrev pub GivenBack : {R E : Type 0} → ℕ → List (Hand R E) → Type 0
GivenBack {R} {E} k hands = (i : ℕ) × (h : Hand R E) × (slice_get hands i ≡ Some h) × (h.slot ≡ k)

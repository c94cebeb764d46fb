-- The ledger of four fields.
use Rattle.std.specs.Prelude.{◌≡◌, ℕ, ◌+◌, ◌-◌, ◌<◌, List, [], ◌∷◌, slice_index}

-- for each field the total at the start, the present one, what left the domain in the last cycle, and in all cycles
pub record LedgerState : Type 0 where
  pub initial : List ℕ
  pub total : List ℕ
  pub out : List ℕ
  pub gone : List ℕ

-- how many fields a ledger has
abbrev pub fields_kept : ℕ
fields_kept = 4

-- in each field what is there and what is gone are what was there at the start
abbrev pub IsBalanced : LedgerState → Type 0
IsBalanced l = (f : ℕ) → f < fields_kept → slice_index l.total f + slice_index l.gone f ≡ slice_index l.initial f

-- a number for each field
abbrev pub for_each : (ℕ → ℕ) → List ℕ
for_each g = g 0 ∷ g 1 ∷ g 2 ∷ g 3 ∷ []

-- field by field
abbrev pub sums : List ℕ → List ℕ → List ℕ
sums a b = for_each (λ f. slice_index a f + slice_index b f)

abbrev pub differences : List ℕ → List ℕ → List ℕ
differences a b = for_each (λ f. slice_index a f - slice_index b f)

-- at the start nothing has left
abbrev pub first_ledger : List ℕ → LedgerState
first_ledger initial = record { initial = initial; total = initial; out = for_each (λ f. 0); gone = for_each (λ f. 0) }

-- a ledger of what is there and what is gone, in which nothing left in the last cycle
abbrev pub restored_ledger : List ℕ → List ℕ → LedgerState
restored_ledger total gone = record { initial = sums total gone; total = total; out = for_each (λ f. 0); gone = gone }

-- a cycle in which this much leaves
abbrev pub later_ledger : LedgerState → List ℕ → LedgerState
later_ledger l out = record { initial = l.initial; total = differences l.total out; out = out; gone = sums l.gone out }

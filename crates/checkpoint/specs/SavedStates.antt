-- What a checkpoint keeps of a run.
use Rattle.std.specs.Prelude.{◌≡◌, ℕ, ◌≤◌, List, length, map, slice_index, take}
use Rattle.block_index.specs.Places.{Cube}
use Rattle.block_fields.specs.Blocks.{BlockState}
use Rattle.params_check.specs.Parameters.{Parameters}
use Rattle.amount_ledger.specs.Ledgers.{LedgerState}

-- The parameters, the cycle that ended last, the leaves in order, for each leaf, for each field, the amounts of its
-- cells, and for each field what is there and what has left the domain.
pub record SavedState : Type 0 where
  pub params : Parameters
  pub cycle : ℕ
  pub places : List Cube
  pub amounts : List (List (List ℕ))
  pub totals : List ℕ
  pub gone : List ℕ

-- What is kept of parameters, a cycle, leaves, blocks and a ledger: of the blocks their amounts, of the ledger what is
-- there and what is gone in the fields that the parameters have. What left in the last cycle isn't kept.
abbrev pub saved : Parameters → ℕ → List Cube → List BlockState → LedgerState → SavedState
saved p cycle places blocks ledger = record {
  params = p;
  cycle = cycle;
  places = places;
  amounts = map (λ b. b.amounts) blocks;
  totals = take (length p.fields) ledger.total;
  gone = take (length p.fields) ledger.gone;
}

-- a list of numbers for the fields holds 0 for those from this one on
abbrev pub AreZeroFrom : ℕ → List ℕ → Type 0
AreZeroFrom fields numbers = (f : ℕ) → fields ≤ f → slice_index numbers f ≡ 0

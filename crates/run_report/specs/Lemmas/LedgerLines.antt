-- The line of a field by the ledger alone.
use Rattle.std.specs.Prelude.{ℕ, List, slice_index}
use Rattle.amount_ledger.specs.Ledgers.{LedgerState}
use Rattle.mesh_output.specs.Lines.{field_line}

-- its name, and what the ledger has of it: what is there, what left in the last cycle and in all
abbrev pub ledger_line : LedgerState → ℕ → List ℕ → List ℕ
ledger_line ledger f name = field_line name (slice_index ledger.total f) (slice_index ledger.out f) (slice_index ledger.gone f)

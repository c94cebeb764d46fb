-- What the report of a run says of the totals of its fields.
use Rattle.std.specs.Prelude.{◌≡◌, ℕ, ◌+◌, ◌<◌, length, slice_index}
use Rattle.block_fields.specs.States.{total}
use Rattle.initial_fill.specs.RootBlocks.{initial_state}
use Rattle.params_check.specs.Parameters.{Parameters}
use Rattle.run_core.specs.Courses.{Told, phase_ended, cycle_ended}

-- What is told of a cycle balances: in each field what is there and what is gone are what was there at the start.
abbrev pub TellsBalance : Parameters → Told → Type 0
TellsBalance p (phase_ended phase leaves) = Unit {0}
TellsBalance p (cycle_ended cycle s ledger) =
    (f : ℕ) → f < length p.fields → total s f + slice_index ledger.gone f ≡ total (initial_state p) f

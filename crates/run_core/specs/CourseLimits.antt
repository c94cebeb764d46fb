-- The limits of courses, and what each state of a run keeps.
use Rattle.std.specs.Prelude.{◌≡◌, ℕ, ◌+◌, ◌<◌, ◌≤◌, length, slice_index}
use Rattle.block_fields.specs.States.{IsState, total}
use Rattle.initial_fill.specs.RootBlocks.{initial_state}
use Rattle.params_check.specs.Bounds.{most_cycles}
use Rattle.params_check.specs.Parameters.{IsParameters, Parameters}
use Rattle.run_core.specs.Courses.{Course, RunState, totals_of}

-- The state is one of the parameters' domain and sizes. The ledger has its totals, and with what is gone they are those
-- of the initial state.
pub record KeepsTotals (p : Parameters) (t : RunState) : Type 0 where
  pub state : IsState t.state
  pub grid : t.state.grid ≡ p.grid
  pub edge : t.state.edge ≡ p.block
  pub fields : t.state.fields ≡ length p.fields
  pub totals : t.ledger.total ≡ totals_of t.state
  pub together : (f : ℕ) → f < length p.fields →
      slice_index t.ledger.total f + slice_index t.ledger.gone f ≡ total (initial_state p) f

-- a course within all limits
pub record IsCourse (c : Course) : Type 0 where
  pub limits : IsParameters c.parameters
  pub start : KeepsTotals c.parameters c.start
  pub ended : c.ended ≤ c.parameters.rounds + most_cycles
  pub last : c.last ≤ most_cycles

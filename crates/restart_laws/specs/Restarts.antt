-- What a run that goes on writes, by what the whole run writes.
use Rattle.std.specs.Prelude.{◌≡◌, ℕ, ◌++◌, Option}
use Rattle.params_check.specs.Parameters.{Parameters}
use Rattle.run_core.specs.declared.fault.RunFault.{RunFault}
use Rattle.run_core.specs.Courses.{Course, RunState, going_on}
use Rattle.run_core.specs.Runs.{RunEnds}
use Rattle.run_report.specs.Actions.{later_actions, report_actions}

-- the run that goes on after a cycle from where the whole run stands then, up to the last cycle of the whole run
abbrev pub rest_of_run : Parameters → ℕ → RunState → Course
rest_of_run p cycle here = going_on p cycle here.state here.ledger.gone p.cycles

-- The run that goes on from `here` ends where the whole run ends, by the same limit or by none. What the whole run writes
-- behind its first line is what it writes up to `here`, and then exactly what the other writes behind its first lines.
pub record GoesOnAlike (p : Parameters) (cycle : ℕ) (here all : RunState) (limit : Option RunFault) : Type 0 where
  pub rest : RunState
  pub ends : RunEnds (rest_of_run p cycle here) rest limit
  pub state : rest.state ≡ all.state
  pub acted : later_actions p all.told all.state.leaves limit
      ≡ report_actions p here.told ++ later_actions p rest.told rest.state.leaves limit

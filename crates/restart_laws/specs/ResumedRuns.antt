-- What a run writes that goes on from a checkpoint, by what the whole run writes.
use Rattle.std.specs.Prelude.{◌≡◌, ℕ, List, ◌∷◌, ◌++◌, Ok, Option, length}
use Rattle.checkpoint.specs.SavedStates.{SavedState}
use Rattle.params_check.specs.Parameters.{Parameters}
use Rattle.run_core.specs.declared.fault.RunFault.{RunFault}
use Rattle.run_core.specs.Courses.{RunState}
use Rattle.run_core.specs.Runs.{RunEnds}
use Rattle.run_report.specs.Actions.{Action, file, kept_state, opening_actions, report_actions, restart_pieces, resumed_actions, run_actions}
use Rattle.run_report.specs.FileNames.{state_name}
use Rattle.restart_laws.specs.Resumes.{StandsFor, resumed}

-- The run that goes on from a saved state, up to the last cycle of its parameters, ends in this state, by this limit or by
-- none. Behind its first lines it writes these actions.
pub record WritesRest (s : SavedState) (all : RunState) (limit : Option RunFault) (later : List Action) : Type 0 where
  pub rest : RunState
  pub ends : RunEnds (resumed s s.params.cycles) rest limit
  pub state : rest.state ≡ all.state
  pub writes : resumed_actions s.params s.cycle (length s.places) rest.told rest.state.leaves limit ≡ restart_pieces s.cycle (length s.places) ++ later

-- The whole run writes what it writes up to where it stands after a cycle, and then exactly what a run writes behind its
-- first lines that goes on from what is kept of that cycle. Both end in the same state, by the same limit or by none.
pub record WritesOnAlike (p : Parameters) (cycle : ℕ) (here all : RunState) (limit : Option RunFault) : Type 0 where
  pub later : List Action
  pub whole_run : run_actions p all.told all.state.leaves limit ≡ opening_actions p here.told ++ later
  pub resumed_run : WritesRest (kept_state p cycle here.state here.ledger) all limit later

-- Bytes stand for a saved state of these parameters, after a cycle, from which a run goes on so.
pub record GoesOnFrom (p : Parameters) (cycle : ℕ) (bytes : List ℕ) (all : RunState) (limit : Option RunFault) (later : List Action) : Type 0 where
  pub saved : SavedState
  pub reads : StandsFor bytes (Ok saved)
  pub params : saved.params ≡ p
  pub at : saved.cycle ≡ cycle
  pub resumed_run : WritesRest saved all limit later

-- The last that the whole run writes of a cycle is its checkpoint, and from its bytes another run writes the rest.
pub record ResumesAt (p : Parameters) (cycle : ℕ) (all : RunState) (limit : Option RunFault) : Type 0 where
  pub before : List Action
  pub bytes : List ℕ
  pub later : List Action
  pub whole_run : run_actions p all.told all.state.leaves limit ≡ before ++ file (state_name cycle) bytes ∷ later
  pub goes_on : GoesOnFrom p cycle bytes all limit later

-- what is written of what one run tells is a beginning of what is written of what the other tells
pub record WritesBeginning (p : Parameters) (part rest : RunState) : Type 0 where
  pub more : List Action
  pub is : report_actions p rest.told ≡ report_actions p part.told ++ more

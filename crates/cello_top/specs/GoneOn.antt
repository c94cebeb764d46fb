-- The answer to `resume`, by what the answer of the whole run has behind a checkpoint.
use Rattle.std.specs.Prelude.{◌≡◌, ℕ, List, ◌++◌, Option}
use Rattle.std.specs.Option.{option_map}
use Rattle.run_core.specs.declared.fault.RunFault.{RunFault}
use Rattle.run_report.specs.Actions.{Action, restart_pieces}
use Rattle.cello_top.specs.Answers.{Answer}
use Rattle.cello_top.specs.Faults.{fault_of}

-- It ends as the whole run does. It writes where it goes on from, and then exactly these actions.
pub record GoesOnAs (cycle : ℕ) (limit : Option RunFault) (later : List Action) (answer : Answer) : Type 0 where
  pub fault : answer.fault ≡ option_map fault_of limit
  pub leaves : ℕ
  pub acted : answer.actions ≡ restart_pieces cycle leaves ++ later

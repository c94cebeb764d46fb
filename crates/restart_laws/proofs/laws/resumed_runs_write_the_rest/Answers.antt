-- Both write on alike.
use Rattle.restart_laws.proofs.WritingOn.{writes-on}
use Rattle.restart_laws.proofs.laws.resumed_runs_write_the_rest.Goals as goal

pub returns : goal.returns
returns c = record { rest = λ p cycle here all limit w within runs ends. writes-on p w cycle here all limit within runs ends }

-- Both runs go on alike.
use Rattle.restart_laws.proofs.GoingOn.{goes_on_alike}
use Rattle.restart_laws.proofs.laws.resumed_runs_agree.Goals as goal

pub returns : goal.returns
returns c = record { alike = λ p cycle here all limit w within runs ends. goes_on_alike p w cycle here runs within all limit ends }

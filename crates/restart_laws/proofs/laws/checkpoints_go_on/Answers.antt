-- The rest of the run.
use Rattle.std.proofs.Common.{◌+◌}
use Rattle.restart_laws.proofs.RestCourses.{rest-same}
use Rattle.restart_laws.proofs.laws.checkpoints_go_on.Goals as goal

pub returns : goal.returns
returns c = record { rest = λ p cycle here w runs. rest-same p w (p.rounds + cycle) cycle here runs }

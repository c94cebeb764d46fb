-- Phase by phase, up to the last or to a limit.
use Rattle.run_core.proofs.PhaseMeshes.{course-Tiles}
use Rattle.run_core.proofs.RunExists.{run_exists}
use Rattle.run_core.proofs.laws.run_exists.Goals as goal

pub returns : goal.returns
returns c = record { exists = λ c w. run_exists c (course-Tiles c w) }

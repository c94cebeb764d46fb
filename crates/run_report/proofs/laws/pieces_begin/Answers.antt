-- By where the actions ended.
use Rattle.run_report.proofs.Prefixes.{within-bytes}
use Rattle.run_report.proofs.laws.pieces_begin.Goals as goal

pub returns : goal.returns
returns c = λ actions old new stands. within-bytes actions old new stands

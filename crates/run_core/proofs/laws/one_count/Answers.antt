-- The counts of the phases agree one by one, and each phase has one.
use Rattle.run_core.proofs.PhaseMeshes.{course-Tiles}
use Rattle.run_core.proofs.PlainCounts.{HandlesPlainly-one, HandlesPlainly-exists}
use Rattle.run_core.proofs.laws.one_count.Goals as goal

pub returns : goal.returns
returns c = record { one = HandlesPlainly-one; exists = λ c s w ends. HandlesPlainly-exists c s (course-Tiles c w) ends }

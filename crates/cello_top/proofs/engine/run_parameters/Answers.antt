-- A run that begins, and want of memory before the first line.
use Rattle.std.proofs.Common.{refl}
use Rattle.run_core.specs.Courses.{whole}
use Rattle.run_core.proofs.RunTotals.{whole-IsCourse}
use Rattle.cello_top.specs.Lemmas.CommandSteps.{running_memory}
use Rattle.cello_top.proofs.Counted.{none-first}
use Rattle.cello_top.proofs.EngineSteps.{none-in_part}
use Rattle.cello_top.proofs.engine.run_parameters.Goals as goal

pub returns-in-Err-clause-ended : goal.returns-in-Err-clause-ended
returns-in-Err-clause-ended g c = running_memory refl (none-in_part _ (whole c.args.params) (whole-IsCourse c.args.params c.domain-limits.ensures.limits) _)

pub report_whole-requires-clause-none : goal.report_whole-requires-clause-none
report_whole-requires-clause-none g c = none-first c.in-Ok.run' c.args.params.rounds c.in-Ok.ensures.step c.in-Ok.ensures.phase

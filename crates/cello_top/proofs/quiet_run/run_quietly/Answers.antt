-- The end, and what cuts a run off.
use Rattle.std.proofs.Common.{subst}
use Rattle.run_core.specs.Courses.{Course}
use Rattle.cello_top.specs.Lemmas.Demonstrating.{IsCutBy}
use Rattle.cello_top.proofs.QuietRuns.{ended-from}
use Rattle.cello_top.proofs.quiet_run.run_quietly.Goals as goal

pub returns-in-Ok-None-clause-ended : goal.returns-in-Ok-None-clause-ended
returns-in-Ok-None-clause-ended g c =
    ended-from g.C.Crew.counts c.work_quietly.new.run c.loop-count.handled _ c.in-Ok-None.field-0-is (c.in-Ok-None.ensures.goes c.loop-count.handled c.loop-count.invariant.keeps)

pub returns-in-Err-clause-cut : goal.returns-in-Err-clause-cut
returns-in-Err-clause-cut g c =
    subst (λ (x : Course). IsCutBy x c.in-Err.fault) c.loop-count.invariant.same (c.in-Err.ensures.cut c.loop-count.handled c.loop-count.invariant.keeps)

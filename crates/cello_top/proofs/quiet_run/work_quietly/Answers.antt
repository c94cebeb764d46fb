-- A work that was given out, and none.
use Rattle.std.proofs.Common.{ap, subst}
use Rattle.std.specs.Prelude.{IfErr}
use Rattle.run_core.specs.Courses.{Course}
use Rattle.run_core.specs.Works.{Standing}
use Rattle.cello_top.specs.Lemmas.Demonstrating.{IsCutBy}
use Rattle.cello_top.proofs.QuietRuns.{cut-by, keeps-given}
use Rattle.cello_top.proofs.quiet_run.work_quietly.Goals as goal

pub returns-in-Ok-clause-goes : goal.returns-in-Ok-clause-goes
returns-in-Ok-clause-goes g c = λ n k.
    c.do_quietly.ensures.goes n (keeps-given g.C.Crew.counts c.args.run.now c.work.new.self _ n c.in-Ok.ensures.out c.in-Ok.ensures.told k)

pub returns-in-Ok-clause-cut : goal.returns-in-Ok-clause-cut
returns-in-Ok-clause-cut g c = λ n k.
    subst (λ (x : Course). IfErr c.do_quietly.result (IsCutBy x)) (ap (λ (x : Standing). x.course) c.in-Ok.ensures.out)
    (c.do_quietly.ensures.cut n (keeps-given g.C.Crew.counts c.args.run.now c.work.new.self _ n c.in-Ok.ensures.out c.in-Ok.ensures.told k))

pub returns-in-Err-clause-cut : goal.returns-in-Err-clause-cut
returns-in-Err-clause-cut g c = λ n k. cut-by g.C.Crew.counts c.args.run.now n c.in-Err.fault c.in-Err.ensures.limit k

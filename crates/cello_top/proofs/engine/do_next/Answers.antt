-- A work that was given out, and a run that ends.
use Rattle.std.proofs.Common.{[], ap, subst}
use Rattle.std.specs.Prelude.{IfErr}
use Rattle.run_core.specs.Courses.{Course}
use Rattle.run_core.specs.Works.{Standing}
use Rattle.run_report.specs.Outputs.{output}
use Rattle.cello_top.specs.Lemmas.CommandSteps.{RunningEnds}
use Rattle.cello_top.proofs.EngineSteps.{told-fault, told-given}
use Rattle.cello_top.proofs.engine.do_next.Goals as goal

pub returns-in-Ok-clause-goes : goal.returns-in-Ok-clause-goes
returns-in-Ok-clause-goes g c = λ n before t.
    c.do_work.ensures.goes n before (told-given _ c.args.run.now c.work.new.self _ n before _ c.in-Ok.ensures.out c.in-Ok.ensures.told t)

pub returns-in-Ok-clause-ended : goal.returns-in-Ok-clause-ended
returns-in-Ok-clause-ended g c = λ n before t.
    subst (λ (x : Course). IfErr c.do_work.result (RunningEnds [] x before (output (g.K.Sink.written c.do_work.new.sink) (g.H.Shelf.tells c.do_work.new.shelf).written)))
    (ap (λ (x : Standing). x.course) c.in-Ok.ensures.out)
    (c.do_work.ensures.ended n before (told-given _ c.args.run.now c.work.new.self _ n before _ c.in-Ok.ensures.out c.in-Ok.ensures.told t))

pub returns-in-Err-clause-ended : goal.returns-in-Err-clause-ended
returns-in-Err-clause-ended g c = λ n before t.
    told-fault _ c.args.run.now n before _ t c.requires.limits c.set-set.ensures.stands c.in-Err.fault c.from.result c.from.ensures c.in-Err.ensures.limit

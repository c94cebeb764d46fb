-- All was written, and a work that ends otherwise than well.
use Rattle.std.proofs.Common.{[], subst, ◌∙◌}
use Rattle.run_core.specs.Courses.{Course}
use Rattle.run_report.specs.Outputs.{output}
use Rattle.cello_top.specs.Lemmas.CommandSteps.{RunningEnds}
use Rattle.cello_top.proofs.EngineSteps.{whole-from}
use Rattle.cello_top.proofs.engine.do_works.Goals as goal

pub returns-in-Ok-None-clause-whole : goal.returns-in-Ok-None-clause-whole
returns-in-Ok-None-clause-whole g c = λ before t.
    whole-from _ c.do_next.new.run c.args.run.now.course c.loop-count.handled before _ _ c.in-Ok-None.field-0-is
    (c.in-Ok-None.ensures.same ∙ c.loop-count.invariant.same) (c.in-Ok-None.ensures.goes c.loop-count.handled before (c.loop-count.invariant.told before t))

pub returns-in-Err-clause-ended : goal.returns-in-Err-clause-ended
returns-in-Err-clause-ended g c = λ before t.
    subst (λ (x : Course). RunningEnds [] x before (output (g.K.Sink.written c.do_next.new.sink) (g.H.Shelf.tells c.do_next.new.shelf).written) c.in-Err.fault)
    c.loop-count.invariant.same (c.in-Err.ensures.ended c.loop-count.handled before (c.loop-count.invariant.told before t))

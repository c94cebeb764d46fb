-- What is written so far, and how much is left.
use Rattle.std.proofs.Common.{◌≡◌, ◌+◌, ◌*◌, ◌≤◌}
use Rattle.run_core.specs.declared.step.Stage.TheVariants.{Next}
use Rattle.run_core.specs.Lemmas.Bounds.{many_messages, most_works}
use Rattle.run_core.specs.Works.{works_left}
use Rattle.run_report.specs.Outputs.{Output, output}
use Rattle.cello_top.specs.Lemmas.CommandSteps.{TreatsDevices}
use Rattle.cello_top.specs.Lemmas.Engine.{Tells}
use Rattle.cello_top.proofs.engine.do_works.Given as goal

abbrev pub invariant-loop-count : goal.invariant-loop-count
invariant-loop-count g l = record {
  same : l.run.course ≡ l.fn.run.course;
  next : l.run.stage ≡ Next;
  told : (before : Output) → Tells g.C.Crew.counts l.fn.run 0 before (output (g.K.Sink.written l.fn.sink) (g.H.Shelf.tells l.fn.shelf).written)
      → Tells g.C.Crew.counts l.run l.handled before (output (g.K.Sink.written l.sink) (g.H.Shelf.tells l.shelf).written);
  few : l.handled + works_left l.run * many_messages ≤ most_works * many_messages;
  devices : TreatsDevices (g.K.Sink.write_faults l.fn.sink) (g.K.Sink.write_faults l.sink) (g.H.Shelf.tells l.fn.shelf) (g.H.Shelf.tells l.shelf) ⊥;
  same_rest : g.K.Sink.rest l.sink ≡ g.K.Sink.rest l.fn.sink;
}

abbrev pub decreases-loop-count : goal.decreases-loop-count
decreases-loop-count g l = works_left l.run

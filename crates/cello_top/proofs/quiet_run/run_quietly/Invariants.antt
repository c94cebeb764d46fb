-- What is kept so far, and how much is left.
use Rattle.std.proofs.Common.{◌≡◌, ◌+◌, ◌*◌, ◌≤◌}
use Rattle.run_core.specs.declared.step.Stage.TheVariants.{Next}
use Rattle.run_core.specs.Lemmas.Bounds.{many_messages, most_works}
use Rattle.run_core.specs.Works.{works_left}
use Rattle.cello_top.specs.Lemmas.Demonstrating.{Keeps}
use Rattle.cello_top.proofs.quiet_run.run_quietly.Given as goal

abbrev pub invariant-loop-count : goal.invariant-loop-count
invariant-loop-count g l = record {
  same : l.run.course ≡ l.fn.run.course;
  next : l.run.stage ≡ Next;
  keeps : Keeps g.C.Crew.counts l.run l.handled;
  few : l.handled + works_left l.run * many_messages ≤ most_works * many_messages;
}

abbrev pub decreases-loop-count : goal.decreases-loop-count
decreases-loop-count g l = works_left l.run

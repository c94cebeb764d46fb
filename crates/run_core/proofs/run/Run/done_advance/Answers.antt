-- The blocks as they came back.
use Rattle.run_core.specs.Courses.{course_of}
use Rattle.run_core.proofs.TakenAdvances.{advance-keeps-run}
use Rattle.run_core.proofs.run.Run.done_advance.Goals as goal

pub invariant_of-self : goal.invariant_of-self
invariant_of-self g c =
    let run = c.self.inside in
    advance-keeps-run (course_of run.params run.ended run.last g.S.Start.start) run.set run.ledger run.phase (record { blocks = run.blocks.items; wishes = run.wishes.items; faces = run.faces.items })
    (record { blocks = c.args.blocks.items; wishes = run.wishes.items; faces = c.args.faces.items }) run.step run.stage c.args.self.now c.self.view_is
    c.requires.out c.requires.step c.self.invariant c.requires.advanced

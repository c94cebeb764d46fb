-- The blocks as they were kept.
use Rattle.std.proofs.Common.{rules}
use Rattle.run_core.specs.declared.step.Step.TheVariants.{Wishes}
use Rattle.run_core.specs.Courses.{course_of}
use Rattle.run_core.proofs.GivenWorks.{IsWishes-given}
use Rattle.run_core.proofs.Keeping.{kept-next, seen-step}
use Rattle.run_core.proofs.run.Run.give_wishes.Goals as goal

pub returns-clause-blocks : goal.returns-clause-blocks
returns-clause-blocks g c =
    let run = c.self.inside in
    let at = course_of run.params run.ended run.last g.S.Start.start in
    let kept = kept-next at run.set run.ledger run.phase (record { blocks = run.blocks.items; wishes = run.wishes.items; faces = run.faces.items }) run.step run.stage c.args.self.now
    c.self.view_is Wishes c.requires.next c.requires.step c.self.invariant in
    IsWishes-given at c.self.invariant.limits run.set run.ledger run.phase run.blocks.items c.replace.result.items (search rules) run.step
    (seen-step at run.set run.ledger run.phase (record { blocks = run.blocks.items; wishes = run.wishes.items; faces = run.faces.items }) run.step run.stage c.args.self.now c.self.view_is Wishes c.requires.step) kept

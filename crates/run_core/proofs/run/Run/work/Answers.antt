-- All was told; and what was told stays.
use Rattle.std.proofs.Common.{ap, sym, ◌∙◌}
use Rattle.run_core.specs.declared.step.Stage.TheVariants.{Out}
use Rattle.run_core.specs.declared.step.Step.TheVariants.{Ended}
use Rattle.run_core.specs.Courses.{course_of}
use Rattle.run_core.specs.Works.{Standing}
use Rattle.run_core.proofs.GivenWorks.{IsEnd-given}
use Rattle.run_core.proofs.Keeping.{kept-next}
use Rattle.run_core.proofs.Telling.{told-staged}
use Rattle.run_core.proofs.run.Run.work.Goals as goal

pub returns-in-Ended-clause-work : goal.returns-in-Ended-clause-work
returns-in-Ended-clause-work g c =
    let run = c.self.inside in
    let at = course_of run.params run.ended run.last g.S.Start.start in
    IsEnd-given at run.set run.ledger run.phase run.step run.stage c.args.self.now c.self.view_is c.in-Ended.is
    (kept-next at run.set run.ledger run.phase (record { blocks = run.blocks.items; wishes = run.wishes.items; faces = run.faces.items }) run.step run.stage c.args.self.now
    c.self.view_is Ended c.requires.next (ap (λ (s : Standing). s.step) (sym c.self.view_is) ∙ c.in-Ended.is) c.self.invariant) c.self.invariant.stands

pub returns-in-Wishes-clause-told : goal.returns-in-Wishes-clause-told
returns-in-Wishes-clause-told g c = told-staged c.args.self.now c.give_wishes.new.self Out c.give_wishes.ensures.out

pub returns-in-Advance-clause-told : goal.returns-in-Advance-clause-told
returns-in-Advance-clause-told g c = told-staged c.args.self.now c.give_advance.new.self Out c.give_advance.ensures.out

pub returns-in-Emit-clause-told : goal.returns-in-Emit-clause-told
returns-in-Emit-clause-told g c = told-staged c.args.self.now c.give_emission.new.self Out c.give_emission.ensures.out

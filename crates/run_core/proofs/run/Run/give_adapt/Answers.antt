-- The wishes as they are read, and the limit that one passes.
use Rattle.std.proofs.Common.{sym, subst, List, ◌+◌, arith}
use Rattle.block_index.specs.declared.wish.Wish.{Wish}
use Rattle.run_core.specs.declared.step.Stage.TheVariants.{Out}
use Rattle.run_core.specs.declared.step.Step.TheVariants.{Adapt}
use Rattle.run_core.specs.Courses.{course_of}
use Rattle.run_core.specs.Works.{AreWishes}
use Rattle.run_core.proofs.GivenWorks.{DuringAdapt-given, IsAdapt-given, limit-seen, wishes-one_each}
use Rattle.run_core.proofs.Keeping.{keeps-with, kept-next, seen-step}
use Rattle.run_core.proofs.run.Run.give_adapt.Goals as goal

pub begin_adapt-requires-clause-one_each : goal.begin_adapt-requires-clause-one_each
begin_adapt-requires-clause-one_each g c =
    let run = c.self.inside in
    let at = course_of run.params run.ended run.last g.S.Start.start in
    let kept = kept-next at run.set run.ledger run.phase (record { blocks = run.blocks.items; wishes = run.wishes.items; faces = run.faces.items }) run.step run.stage c.args.self.now c.self.view_is Adapt c.requires.next c.requires.step c.self.invariant in
    wishes-one_each at run.phase run.set.places run.blocks.items c.deref.result.now kept.holds
    (subst (λ (ws : List Wish). AreWishes at run.phase ws) (sym c.deref.ensures.value) kept.asked)

pub returns-in-Err-clause-limit : goal.returns-in-Err-clause-limit
returns-in-Err-clause-limit g c =
    let run = c.self.inside in
    let at = course_of run.params run.ended run.last g.S.Start.start in
    let kept = kept-next at run.set run.ledger run.phase (record { blocks = run.blocks.items; wishes = run.wishes.items; faces = run.faces.items }) run.step run.stage c.args.self.now c.self.view_is Adapt c.requires.next c.requires.step c.self.invariant in
    limit-seen at run.set run.ledger run.phase (run.ended + run.phase + 1) run.step run.stage c.args.self.now run.blocks.items c.deref.result.now c.in-Err.fault c.self.view_is
    c.requires.step (omega arith) kept.more kept.holds
    (subst (λ (ws : List Wish). AreWishes at run.phase ws) (sym c.deref.ensures.value) kept.asked) c.in-Err.ensures.ended

pub invariant_of-self : goal.invariant_of-self
invariant_of-self g c =
    let run = c.self.inside in
    let at = course_of run.params run.ended run.last g.S.Start.start in
    let kept = kept-next at run.set run.ledger run.phase (record { blocks = run.blocks.items; wishes = run.wishes.items; faces = run.faces.items }) run.step run.stage c.args.self.now c.self.view_is Adapt c.requires.next c.requires.step c.self.invariant in
    let is = seen-step at run.set run.ledger run.phase (record { blocks = run.blocks.items; wishes = run.wishes.items; faces = run.faces.items }) run.step run.stage c.args.self.now c.self.view_is Adapt c.requires.step in
    keeps-with at run.set run.ledger run.phase run.step run.stage Out (record { blocks = run.blocks.items; wishes = run.wishes.items; faces = run.faces.items }) (record { blocks = run.blocks.items; wishes = run.wishes.items; faces = run.faces.items }) c.self.invariant
    (DuringAdapt-given at run.phase run.set.places (record { blocks = run.blocks.items; wishes = run.wishes.items; faces = run.faces.items }) run.step c.deref.result.now is kept c.deref.ensures.value c.in-Ok.ensures.level_limit)

pub returns-in-Ok-clause-begun : goal.returns-in-Ok-clause-begun
returns-in-Ok-clause-begun g c =
    let run = c.self.inside in
    let at = course_of run.params run.ended run.last g.S.Start.start in
    let kept = kept-next at run.set run.ledger run.phase (record { blocks = run.blocks.items; wishes = run.wishes.items; faces = run.faces.items }) run.step run.stage c.args.self.now c.self.view_is Adapt c.requires.next c.requires.step c.self.invariant in
    let is = seen-step at run.set run.ledger run.phase (record { blocks = run.blocks.items; wishes = run.wishes.items; faces = run.faces.items }) run.step run.stage c.args.self.now c.self.view_is Adapt c.requires.step in
    IsAdapt-given at run.set run.ledger run.phase run.step run.wishes.items c.deref.result.now c.in-Ok.begun.0 c.in-Ok.begun.1.items is kept.more kept.asked
    c.deref.ensures.value c.in-Ok.ensures.level_limit c.in-Ok.ensures.grid c.in-Ok.ensures.places c.in-Ok.ensures.asked c.in-Ok.ensures.begins

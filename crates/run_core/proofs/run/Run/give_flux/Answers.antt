-- The advanced blocks as they were kept.
use Rattle.std.proofs.Common.{sym}
use Rattle.run_core.specs.declared.step.Step.TheVariants.{Flux}
use Rattle.run_core.specs.Courses.{course_of}
use Rattle.run_core.proofs.GivenWorks.{AreUpwindAdvanced-kept, IsFlux-given}
use Rattle.run_core.proofs.Keeping.{blocks-within, kept-next, seen-step}
use Rattle.run_core.proofs.run.Run.give_flux.Goals as goal

pub begin_flux-requires-clause-advanced : goal.begin_flux-requires-clause-advanced
begin_flux-requires-clause-advanced g c =
    let run = c.self.inside in
    let at = course_of run.params run.ended run.last g.S.Start.start in
    let kept = kept-next at run.set run.ledger run.phase (record { blocks = run.blocks.items; wishes = run.wishes.items; faces = run.faces.items }) run.step run.stage c.args.self.now c.self.view_is Flux c.requires.next c.requires.step c.self.invariant in
    let advanced = kept.advanced in
    record {
      befores = advanced.befores;
      are = advanced.holds.are_blocks;
      limits = blocks-within at c.self.invariant.limits run.phase advanced.befores Flux advanced.holds.stands;
      around = advanced.around;
      advanced = AreUpwindAdvanced-kept run.params advanced.befores run.blocks.items c.replace-blocks.result.items run.faces.items c.replace-faces.result.items
          (λ i. (sym c.replace-blocks.ensures.value i).items) (λ i. (sym c.replace-faces.ensures.value i).items) advanced.advanced;
    }

pub returns-clause-begun : goal.returns-clause-begun
returns-clause-begun g c =
    let run = c.self.inside in
    let at = course_of run.params run.ended run.last g.S.Start.start in
    let kept = kept-next at run.set run.ledger run.phase (record { blocks = run.blocks.items; wishes = run.wishes.items; faces = run.faces.items }) run.step run.stage c.args.self.now c.self.view_is Flux c.requires.next c.requires.step c.self.invariant in
    let is = seen-step at run.set run.ledger run.phase (record { blocks = run.blocks.items; wishes = run.wishes.items; faces = run.faces.items }) run.step run.stage c.args.self.now c.self.view_is Flux c.requires.step in
    let advanced = AreUpwindAdvanced-kept run.params kept.advanced.befores run.blocks.items c.replace-blocks.result.items run.faces.items c.replace-faces.result.items
    (λ i. (sym c.replace-blocks.ensures.value i).items) (λ i. (sym c.replace-faces.ensures.value i).items) kept.advanced.advanced in
    IsFlux-given at run.set run.ledger run.phase run.step run.blocks.items run.faces.items c.in_ok-begun.begun.0 c.in_ok-begun.begun.1.items is kept
    c.in_ok-begun.ensures.setting (c.in_ok-begun.ensures.state kept.advanced.befores advanced) c.in_ok-begun.ensures.depths c.in_ok-begun.ensures.made
    c.in_ok-begun.ensures.begins

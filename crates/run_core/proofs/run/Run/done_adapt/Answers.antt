-- The mesh and the blocks after the phase, and the limit that it passes.
use Rattle.std.proofs.Common.{ℕ, ◌+◌, ◌^◌, ◌<◌, ◌≤◌, List, length, sym, subst, ◌∙◌, ap, arith}
use Rattle.block_fields.specs.Blocks.{BlockState}
use Rattle.block_fields.specs.States.{total}
use Rattle.adapt_core.specs.Problem.{wishes_of}
use Rattle.run_core.specs.declared.step.Step.TheVariants.{Adapt}
use Rattle.run_core.specs.Courses.{course_of}
use Rattle.run_core.specs.Runs.{blocks_state, phase_wishes}
use Rattle.run_core.specs.Works.{AreNextWishes, Standing}
use Rattle.run_core.proofs.GivenWorks.{limit-seen, wishes-blocks, wishes-limit}
use Rattle.run_core.proofs.Keeping.{blocks-within, kept-out}
use Rattle.run_core.proofs.TakenPhases.{adapted-counted, adapted-keeps, adapted-next, adapted-told, adapts-kept}
use Rattle.run_core.proofs.run.Run.done_adapt.Goals as goal

pub next_state-requires-clause-few : goal.next_state-requires-clause-few
next_state-requires-clause-few g c =
    let run = c.self.inside in
    let at = course_of run.params run.ended run.last g.S.Start.start in
    let kept = kept-out at run.set run.ledger run.phase (record { blocks = run.blocks.items; wishes = run.wishes.items; faces = run.faces.items }) run.step run.stage c.args.self.now c.self.view_is Adapt c.requires.out c.requires.step c.self.invariant in
    let few = (blocks-within at c.self.invariant.limits run.phase run.blocks.items Adapt kept.holds.stands).few in
    subst (λ (bs : List BlockState). (f : ℕ) → f < length run.params.fields → total (blocks_state run.params bs) f ≤ 2 ^ 40)
    (λ i. (sym c.replace-blocks.ensures.value i).items) few

pub next_state-requires-clause-level_limit : goal.next_state-requires-clause-level_limit
next_state-requires-clause-level_limit g c =
    let run = c.self.inside in
    let at = course_of run.params run.ended run.last g.S.Start.start in
    let kept = kept-out at run.set run.ledger run.phase (record { blocks = run.blocks.items; wishes = run.wishes.items; faces = run.faces.items }) run.step run.stage c.args.self.now c.self.view_is Adapt c.requires.out c.requires.step c.self.invariant in
    wishes-limit at run.phase run.set.places run.blocks.items run.wishes.items kept.holds kept.asked (wishes_of c.args.quiet.problem)
    (subst (λ (s : Standing). AreNextWishes s (wishes_of c.args.quiet.problem)) (sym c.self.view_is) c.requires.problem.wishes) kept.level_limit

pub next_state-requires-clause-wishes : goal.next_state-requires-clause-wishes
next_state-requires-clause-wishes g c =
    let run = c.self.inside in
    let at = course_of run.params run.ended run.last g.S.Start.start in
    let kept = kept-out at run.set run.ledger run.phase (record { blocks = run.blocks.items; wishes = run.wishes.items; faces = run.faces.items }) run.step run.stage c.args.self.now c.self.view_is Adapt c.requires.out c.requires.step c.self.invariant in
    wishes-blocks at run.phase run.set.places run.blocks.items (wishes_of c.args.quiet.problem) kept.holds
    (subst (λ (s : Standing). AreNextWishes s (wishes_of c.args.quiet.problem)) (sym c.self.view_is) c.requires.problem.wishes)
    ∙ ap (λ (bs : List BlockState). phase_wishes run.params (run.ended + run.phase + 1) (blocks_state run.params bs)) (λ i. (sym c.replace-blocks.ensures.value i).items)

pub returns-in-Err-clause-limit : goal.returns-in-Err-clause-limit
returns-in-Err-clause-limit g c =
    let run = c.self.inside in
    let at = course_of run.params run.ended run.last g.S.Start.start in
    let kept = kept-out at run.set run.ledger run.phase (record { blocks = run.blocks.items; wishes = run.wishes.items; faces = run.faces.items }) run.step run.stage c.args.self.now c.self.view_is Adapt c.requires.out c.requires.step c.self.invariant in
    limit-seen at run.set run.ledger run.phase (run.ended + run.phase + 1) run.step run.stage c.args.self.now run.blocks.items (wishes_of c.args.quiet.problem) c.in-Err.fault
    c.self.view_is c.requires.step (omega arith) kept.more kept.holds
    (subst (λ (s : Standing). AreNextWishes s (wishes_of c.args.quiet.problem)) (sym c.self.view_is) c.requires.problem.wishes) c.in-Err.ensures.ended

pub invariant_of-self : goal.invariant_of-self
invariant_of-self g c =
    let run = c.self.inside in
    let at = course_of run.params run.ended run.last g.S.Start.start in
    adapted-keeps at run.set c.in-Ok.field-0.set run.ledger run.phase (record { blocks = run.blocks.items; wishes = run.wishes.items; faces = run.faces.items })
    (record { blocks = c.in-Ok.field-0.blocks.items; wishes = run.wishes.items; faces = run.faces.items }) run.step run.stage c.args.self.now c.self.view_is c.requires.out c.requires.step c.self.invariant
    c.in-Ok.ensures.grid c.in-Ok.ensures.blocks (run.ended + run.phase + 1)
    (adapts-kept run.params (run.ended + run.phase + 1) run.blocks.items c.replace-blocks.result.items c.in-Ok.field-0.blocks.items
    (λ i. (c.replace-blocks.ensures.value i).items) c.in-Ok.ensures.adapts) (omega arith) c.rounds.result c.rounds-in-Ok.result c.rounds.ensures.rounds
    c.rounds-in-Ok.ensures.rounds c.phases_after_adapt-self-inside.result c.after_adapt-self-inside.result c.phases_after_adapt-self-inside.ensures.phases
    c.after_adapt-self-inside.ensures.step

pub returns-in-Ok-clause-next : goal.returns-in-Ok-clause-next
returns-in-Ok-clause-next g c =
    let run = c.self.inside in
    let at = course_of run.params run.ended run.last g.S.Start.start in
    adapted-next at run.set c.in-Ok.field-0.set run.ledger run.phase (record { blocks = run.blocks.items; wishes = run.wishes.items; faces = run.faces.items })
    (record { blocks = c.in-Ok.field-0.blocks.items; wishes = run.wishes.items; faces = run.faces.items }) run.step run.stage c.args.self.now c.self.view_is c.requires.out c.requires.step c.self.invariant
    c.in-Ok.ensures.grid c.in-Ok.ensures.blocks (run.ended + run.phase + 1)
    (adapts-kept run.params (run.ended + run.phase + 1) run.blocks.items c.replace-blocks.result.items c.in-Ok.field-0.blocks.items
    (λ i. (c.replace-blocks.ensures.value i).items) c.in-Ok.ensures.adapts) (omega arith) c.rounds.result c.rounds-in-Ok.result c.rounds.ensures.rounds
    c.rounds-in-Ok.ensures.rounds c.phases_after_adapt-self-inside.result c.after_adapt-self-inside.result c.phases_after_adapt-self-inside.ensures.phases
    c.after_adapt-self-inside.ensures.step

pub returns-in-Ok-clause-told : goal.returns-in-Ok-clause-told
returns-in-Ok-clause-told g c =
    let run = c.self.inside in
    let at = course_of run.params run.ended run.last g.S.Start.start in
    adapted-told at run.set c.in-Ok.field-0.set run.ledger run.phase (record { blocks = run.blocks.items; wishes = run.wishes.items; faces = run.faces.items })
    (record { blocks = c.in-Ok.field-0.blocks.items; wishes = run.wishes.items; faces = run.faces.items }) run.step run.stage c.args.self.now c.self.view_is c.requires.out c.requires.step c.self.invariant
    c.in-Ok.ensures.grid c.in-Ok.ensures.blocks (run.ended + run.phase + 1)
    (adapts-kept run.params (run.ended + run.phase + 1) run.blocks.items c.replace-blocks.result.items c.in-Ok.field-0.blocks.items
    (λ i. (c.replace-blocks.ensures.value i).items) c.in-Ok.ensures.adapts) (omega arith) c.rounds.result c.rounds-in-Ok.result c.rounds.ensures.rounds
    c.rounds-in-Ok.ensures.rounds c.phases_after_adapt-self-inside.result c.after_adapt-self-inside.result c.phases_after_adapt-self-inside.ensures.phases
    c.after_adapt-self-inside.ensures.step

pub returns-in-Ok-clause-counted : goal.returns-in-Ok-clause-counted
returns-in-Ok-clause-counted g c =
    let run = c.self.inside in
    let at = course_of run.params run.ended run.last g.S.Start.start in
    adapted-counted at run.set c.in-Ok.field-0.set run.ledger run.phase (record { blocks = run.blocks.items; wishes = run.wishes.items; faces = run.faces.items })
    (record { blocks = c.in-Ok.field-0.blocks.items; wishes = run.wishes.items; faces = run.faces.items }) run.step run.stage c.args.self.now c.self.view_is c.requires.out c.requires.step c.self.invariant
    c.in-Ok.ensures.grid c.in-Ok.ensures.blocks (run.ended + run.phase + 1)
    (adapts-kept run.params (run.ended + run.phase + 1) run.blocks.items c.replace-blocks.result.items c.in-Ok.field-0.blocks.items
    (λ i. (c.replace-blocks.ensures.value i).items) c.in-Ok.ensures.adapts) (omega arith) c.rounds.result c.rounds-in-Ok.result c.rounds.ensures.rounds
    c.rounds-in-Ok.ensures.rounds c.phases_after_adapt-self-inside.result c.after_adapt-self-inside.result c.phases_after_adapt-self-inside.ensures.phases
    c.after_adapt-self-inside.ensures.step (wishes_of c.args.quiet.problem) c.requires.problem.wishes

-- The blocks' criteria are within their limits, what they see is small, and their wishes are the state's.
use Rattle.std.proofs.Common.{◌+◌, ap, ◌∙◌, subst}
use Rattle.run_core.specs.declared.step.Step.{Step}
use Rattle.run_core.specs.Steps.{adapts_at}
use Rattle.run_core.specs.Works.{HoldState}
use Rattle.cello_top.proofs.BlockWishes.{AreWishes-shown, keeps-shown, small-shown}
use Rattle.cello_top.proofs.works.give_wishes.Goals as goal

pub wishes-requires-clause-limits : goal.wishes-requires-clause-limits
wishes-requires-clause-limits g c =
    let s = c.args.run.now in
    let holds = subst (λ (k : Step). HoldState k s.course s.phase s.set.places c.args.blocks.items) c.requires.work.step c.requires.work.holds in
    keeps-shown s.course c.requires.limits s.phase s.set.places c.args.blocks.items holds c.deref.result.now c.deref.ensures.value c.params.result.now c.params.ensures.params
    c.items-criteria.result.now (c.items-criteria.ensures.items ∙ c.criteria.ensures.criteria)

pub wishes-requires-clause-small : goal.wishes-requires-clause-small
wishes-requires-clause-small g c =
    let s = c.args.run.now in
    let holds = subst (λ (k : Step). HoldState k s.course s.phase s.set.places c.args.blocks.items) c.requires.work.step c.requires.work.holds in
    small-shown s.course c.requires.limits s.phase s.set.places c.args.blocks.items holds c.deref.result.now c.deref.ensures.value c.params.result.now c.params.ensures.params
    c.items-criteria.result.now (c.items-criteria.ensures.items ∙ c.criteria.ensures.criteria) c.requires.work.around

pub done_wishes-requires-clause-wishes : goal.done_wishes-requires-clause-wishes
done_wishes-requires-clause-wishes g c =
    let s = c.args.run.now in
    let holds = subst (λ (k : Step). HoldState k s.course s.phase s.set.places c.args.blocks.items) c.requires.work.step c.requires.work.holds in
    AreWishes-shown s.course c.requires.limits s.phase s.set.places c.args.blocks.items holds c.deref.result.now c.deref.ensures.value c.params.result.now c.params.ensures.params
    c.items-criteria.result.now (c.items-criteria.ensures.items ∙ c.criteria.ensures.criteria) c.requires.work.around
    (c.phase.result + 1) c.in_ok-wishes.wishes.items
    (ap (λ n. n + 1) (c.phase.ensures.phase ∙ ap (λ (k : Step). adapts_at k (s.course.ended + s.phase)) c.requires.work.step)) c.in_ok-wishes.ensures.wishes

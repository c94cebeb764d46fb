use Rattle.std.proofs.Common.{rules, ◌≡◌, ◌≤◌, ◌∙◌, ◌++◌, [], drop, take, length, refl, sym, ap, subst, Some, arith}
use Rattle.std.specs.Prelude.{All, slice_get}
use Rattle.std.proofs.lemmas.Grind.{common_steps}
use Rattle.post_office.specs.Shares.{IsFor}
use Rattle.post_office.specs.Posts.{stood}
use Rattle.post_office.specs.Lemmas.PartLaws.{put_same}
use Rattle.post_office.proofs.Lists.{get_at, nothing, pool_part}
use Rattle.post_office.proofs.Sorting.{all_front}
use Rattle.post_office.proofs.Handling.{stands_perm}
use Rattle.post_office.proofs.InOrder.{parted, length_front}
use Rattle.post_office.proofs.serving.handle_round.Goals as goal

pub returns-then-is_empty-clause-handled : goal.returns-then-is_empty-clause-handled
returns-then-is_empty-clause-handled g c =
    let mail = c.args.mail.now.items in
    let s = c.args.shard in
    let pile = c.index-pile.result.now in
    let at : slice_get mail s ≡ Some pile = get_at mail s pile c.requires.within ∙ ap (λ z. Some z) (sym c.index-pile.ensures) in
    record { es = []; rest = pile; first = at; counts = refl; left = c.let_go.ensures ∙ sym (put_same mail s pile at); handled = (refl, c.requires.none_sent) }

pub returns-then-is_empty-clause-ended : goal.returns-then-is_empty-clause-ended
returns-then-is_empty-clause-ended g c = λ lasted none.
    let mail = c.args.mail.now.items in
    let s = c.args.shard in
    let pile = c.index-pile.result.now in
    let at : slice_get mail s ≡ Some pile = get_at mail s pile c.requires.within ∙ ap (λ z. Some z) (sym c.index-pile.ensures) in
    let empty : pile ≡ [] = nothing pile (first_of (search rules, grind (arith, common_steps))) in
    (ap (λ l. slice_get l s) c.let_go.ensures ∙ (at ∙ ap (λ z. Some z) empty), c.requires.none_sent)

pub handle_page-round-requires-clause-ours : goal.handle_page-round-requires-clause-ours
handle_page-round-requires-clause-ours g c =
    let mail = c.args.mail.now.items in
    let s = c.args.shard in
    let owners = c.args.owners.now in
    let pile = c.index-pile.result.now in
    let page = c.first_page-page.result.now in
    let first = c.first_page-page.ensures.first in
    let at : slice_get mail s ≡ Some pile = get_at mail s pile c.requires.within ∙ ap (λ z. Some z) (sym c.index-pile.ensures) in
    all_front (λ x. IsFor owners s x) page first.0 (subst (All (λ x. IsFor owners s x)) first.1 (c.requires.sorted s pile at))

pub handle_page-round-requires-clause-stands : goal.handle_page-round-requires-clause-stands
handle_page-round-requires-clause-stands g c =
    let ph = g.P.Phase in
    let law = g.met.P.Phase in
    let mail = c.args.mail.now.items in
    let s = c.args.shard in
    let pile = c.index-pile.result.now in
    let page = c.first_page-page.result.now in
    let first = c.first_page-page.ensures.first in
    let at : slice_get mail s ≡ Some pile = get_at mail s pile c.requires.within ∙ ap (λ z. Some z) (sym c.index-pile.ensures) in
    let here : slice_get mail s ≡ Some (page ++ first.0) = at ∙ ap (λ z. Some z) first.1 in
    (_, stands_perm ph.problem ph.holds ph.weight ph.start_weight ph.react (record { keeps = law.keeps; lowers = law.lowers; same = law.same_problem; order = law.holds_in_any_order; same_weight = law.weighs_in_any_order; addressed = law.addressed; small = law.start_weight_fits }) c.args.owners.now s (stood ph.problem c.args.phase.now c.args.first.now.value.items c.args.cells.now.items) _ _ (pool_part mail s page first.0 here) c.requires.stands)

pub pass-requires : goal.pass-requires
pass-requires g c =
    let mail = c.args.mail.now.items in
    let s = c.args.shard in
    let pile = c.index-pile.result.now in
    let page = c.first_page-page.result.now in
    let first = c.first_page-page.ensures.first in
    let at : slice_get mail s ≡ Some pile = get_at mail s pile c.requires.within ∙ ap (λ z. Some z) (sym c.index-pile.ensures) in
    record { within = (pile, at, subst (λ l. c.handle_page-round.result.handled ≤ length l) (sym first.1) (length_front page first.0 c.handle_page-round.result.handled c.handle_page-round.ensures.handled.0)) }

pub returns-clause-handled : goal.returns-clause-handled
returns-clause-handled g c =
    let mail = c.args.mail.now.items in
    let s = c.args.shard in
    let pile = c.index-pile.result.now in
    let page = c.first_page-page.result.now in
    let first = c.first_page-page.ensures.first in
    let n = c.handle_page-round.result.handled in
    let at : slice_get mail s ≡ Some pile = get_at mail s pile c.requires.within ∙ ap (λ z. Some z) (sym c.index-pile.ensures) in
    let low = c.handle_page-round.ensures.handled.0 in
    let is = parted page first.0 pile n first.1 low in
    record {
      es = take n page;
      rest = drop n pile;
      first = at ∙ ap (λ z. Some z) is.0;
      counts = is.1;
      left = c.pass.ensures pile at;
      handled = c.handle_page-round.ensures.handled.1;
    }

pub returns-clause-ended : goal.returns-clause-ended
returns-clause-ended g c = λ lasted none.
    let some = c.first_page-page.ensures.some in
    let all = c.handle_page-round.ensures.all lasted in
    absurd (omega (arith, some, all, none))

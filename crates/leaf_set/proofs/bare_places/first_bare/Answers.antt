-- What is left of the proof of this function.
use Rattle.std.proofs.Common.{◌≡◌, ◌≤◌, IfSome, arith, length, refl, sym, subst, ◌∙◌}
use Rattle.std.proofs.lemmas.Option.{slice_get_read}
use Rattle.leaf_set.proofs.BarePlaces.{inside_at, HasWalked, HasWalked-none, HasWalked-more, HasWalked-stopped, HasWalked-through, HasWalked-ended}
use Rattle.leaf_set.proofs.Positions.{same_from_option_eq, other_from_option_eq}
use Rattle.leaf_set.proofs.Stretches.{IsPlace-origin}
use Rattle.leaf_set.proofs.bare_places.first_bare.Goals as goal

pub loop-place-init : goal.loop-place-init
loop-place-init c =
    let deep : c.max_level.result ≤ 6 = let l = c.max_level.ensures.limits.finest in omega arith in
    HasWalked-none c.args.domain.now c.args.places.now c.new-next.result c.max_level.ensures.limits (c.new-next.ensures.limits.1 (IsPlace-origin c.max_level.result deep))
    (subst (λ l. IfSome c.new-next.result (λ a. a ≡ record { level = l; x = 0; y = 0; z = 0 })) c.max_level.ensures.level c.new-next.ensures.value)

pub first_finest-requires : goal.first_finest-requires
first_finest-requires c =
    let places = c.args.places.now in
    let here = slice_get_read places (length places) c.loop-place.place-index c.place-item.result refl (omega arith) c.place-item.is in
    record { inside = inside_at c.args.domain.now places c.requires.inside c.loop-place.place-index c.place-item.result here }

pub returns-then-ne-clause-found : goal.returns-then-ne-clause-found
returns-then-ne-clause-found c =
    let places = c.args.places.now in
    let here = slice_get_read places (length places) c.loop-place.place-index c.place-item.result refl (omega arith) c.place-item.is in
    let first = c.first_finest.result in
    HasWalked-stopped c.args.domain.now places c.max_level.ensures.limits c.requires.in_order c.requires.inside c.requires.apart c.loop-place.place-index c.loop-place.next c.place-item.result first
    c.loop-place.invariant
    (other_from_option_eq c.loop-place.next first (sym c.if-ne.true ∙ c.ne.ensures))
    here
    c.first_finest.ensures.inside
    c.first_finest.ensures.finest
    c.first_finest.ensures.beginning

pub returns-then-ne-clause-none : goal.returns-then-ne-clause-none
returns-then-ne-clause-none c =
    HasWalked-ended c.args.domain.now c.args.places.now c.max_level.ensures.limits c.requires.in_order c.requires.inside c.requires.apart c.loop-place.place-index c.loop-place.next c.loop-place.invariant

pub finest_after-next-requires : goal.finest_after-next-requires
finest_after-next-requires c =
    let places = c.args.places.now in
    let here = slice_get_read places (length places) c.loop-place.place-index c.place-item.result refl (omega arith) c.place-item.is in
    record { inside = inside_at c.args.domain.now places c.requires.inside c.loop-place.place-index c.place-item.result here }

pub loop-place-preserved : goal.loop-place-preserved
loop-place-preserved c =
    let places = c.args.places.now in
    let here = slice_get_read places (length places) c.loop-place.place-index c.place-item.result refl (omega arith) c.place-item.is in
    let first = c.first_finest.result in
    HasWalked-more c.args.domain.now places c.max_level.ensures.limits c.requires.in_order c.requires.inside c.requires.apart c.loop-place.place-index c.loop-place.next c.finest_after-next.result c.place-item.result first
    c.loop-place.invariant
    (same_from_option_eq c.loop-place.next first (sym c.if-ne.false ∙ c.ne.ensures))
    here
    c.first_finest.ensures.beginning
    c.finest_after-next.ensures.found
    c.finest_after-next.ensures.finest
    c.finest_after-next.ensures.none

pub returns-clause-found : goal.returns-clause-found
returns-clause-found c =
    let places = c.args.places.now in
    HasWalked-through c.args.domain.now places c.max_level.ensures.limits c.requires.in_order c.requires.inside c.requires.apart c.loop-place.next
    (subst (λ n. HasWalked c.args.domain.now places n c.loop-place.next) (omega arith) c.loop-place.invariant)

pub returns-clause-none : goal.returns-clause-none
returns-clause-none c =
    HasWalked-ended c.args.domain.now c.args.places.now c.max_level.ensures.limits c.requires.in_order c.requires.inside c.requires.apart c.loop-place.place-index c.loop-place.next c.loop-place.invariant

-- What is left of the proof of this function.
use Rattle.std.proofs.Common.{rules, ◌≡◌, Some, arith, below_more, length, slice_get, refl, sym, subst, ◌∙◌}
use Rattle.std.proofs.lemmas.Option.{slice_get_within, slice_get_read, same_Some}
use Rattle.block_index.specs.Places.{IsInside}
use Rattle.leaf_set.proofs.faults.first_outside.Goals as goal

pub loop-at-preserved : goal.loop-at-preserved
loop-at-preserved c =
    let places = c.args.places.now in
    let place = c.index-places-at.result in
    let within : IsInside c.args.domain.now place = search rules in
    let here : slice_get places c.loop-at.at ≡ Some place = slice_get_read places (length places) c.loop-at.at place refl (omega arith) c.index-places-at.is in
    below_more _ _ c.loop-at.invariant (λ o. o.outside (subst (IsInside c.args.domain.now) (same_Some place o.place (sym here ∙ o.is_place)) within))

pub returns-clause-none : goal.returns-clause-none
returns-clause-none c n at o =
    let w = slice_get_within c.args.places.now at o.place o.is_place in
    c.loop-at.invariant at (omega arith) o

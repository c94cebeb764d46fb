-- What is left of the proof of this function.
use Rattle.std.proofs.Common.{◌≡◌, ◌≤◌, ◌↔◌, true≢false, Some, IsNone, slice_get, refl, sym, ap, subst, arith, inl, inr}
use Rattle.std.proofs.lemmas.Bool.{cases_lt}
use Rattle.block_index.specs.Places.{Cube}
use Rattle.leaf_set.specs.Lemmas.JumpSearch.{IsFarOver}
use Rattle.leaf_set.proofs.FarLeaves.{RisesTo, RisesTo-rise, IsFarOver-RisesTo, over_once}
use Rattle.leaf_set.proofs.jump.far_above.Goals as goal

-- what has a parent is no root
below_root : (below above : Cube) → (IsNone (Some above) ↔ (below.level ≡ 0)) → 1 ≤ below.level
below_root below above h =
    elim (cases_lt 0 below.level) [
      | inl some ↦ some
      | inr none ↦ absurd (true≢false (h.1 (omega arith)))
    ]

over : (c : goal.In-Some-position) → IsFarOver c.args.places.now.keys c.args.place c.in-Some-position.j c.in-Some.above
over c =
    let above = c.in-Some.above in
    let same = c.in-Some.ensures.value in
    subst (IsFarOver c.args.places.now.keys c.args.place c.in-Some-position.j) (sym same)
    (IsFarOver-RisesTo c.args.places.now.keys c.args.place c.loop-above.below c.in-Some-position.j c.loop-above.invariant (below_root c.loop-above.below above c.in-Some.ensures.root) (subst (λ q. slice_get c.args.places.now.keys c.in-Some-position.j ≡ Some q) same c.in-Some-position.ensures.found))

pub returns-in-Some-position-clause-found : goal.returns-in-Some-position-clause-found
returns-in-Some-position-clause-found c = (c.in-Some.above, over c)

pub returns-in-Some-position-clause-every : goal.returns-in-Some-position-clause-every
returns-in-Some-position-clause-every c a j v =
    ap Some (over_once c.args.places.now.keys c.args.place c.in-Some.above a c.in-Some-position.j j c.requires.apart (over c) v)

pub loop-above-preserved : goal.loop-above-preserved
loop-above-preserved c =
    let above = c.in-Some.above in
    let same = c.in-Some.ensures.value in
    subst (RisesTo c.args.places.now.keys c.args.place) (sym same)
    (RisesTo-rise c.args.places.now.keys c.args.place c.loop-above.below c.loop-above.invariant (below_root c.loop-above.below above c.in-Some.ensures.root) (λ leaf.
    c.in_default-position.ensures.none refl (leaf.0, subst (λ q. slice_get c.args.places.now.keys leaf.0 ≡ Some q) (sym same) leaf.1)))

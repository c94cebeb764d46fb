-- What is left of the proof of this function.
use Rattle.std.proofs.Common.{refl, sym, subst, arith}
use Rattle.std.proofs.lemmas.Option.{none-some, slice_get_within}
use Rattle.block_index.specs.Places.{child_of, parent_of}
use Rattle.leaf_set.proofs.Containment.{Contains-parent_of, covers-Contains}
use Rattle.leaf_set.proofs.LeafCounts.{length-IsMesh_limit}
use Rattle.block_index.specs.Beyond.{IsBeyond}
use Rattle.cello_neighbours.specs.Covers.{IsCoarserOver}
use Rattle.cello_neighbours.proofs.NearChildren.{LiesAgainst-child_of}
use Rattle.cello_neighbours.proofs.Splits.{below_finest, IsLeaf-LiesAgainst}
use Rattle.cello_neighbours.proofs.by_direction.in_direction.Goals as goal

pub returns-in_default : goal.returns-in_default
returns-in_default c = record {
  cover = (
    c.place.result,
    c.place.ensures.leaf,
    λ q h.
        none-some q (c.in_default.ensures.every q (subst (λ g. IsBeyond g c.place.result c.args.d q) (sym c.domain.ensures.grid) h)),
  );
}

pub overflow_cast-result : goal.overflow_cast-result
overflow_cast-result c =
    let t = c.domain.ensures.tiles in
    omega
    (arith, slice_get_within c.args.set.now.places c.in-Some-position.j _ c.in-Some-position.ensures.found, length-IsMesh_limit c.args.set.now.grid c.args.set.now.places t.domain t.mesh)

pub overflow_cast-result-in-Some-coarser_over : goal.overflow_cast-result-in-Some-coarser_over
overflow_cast-result-in-Some-coarser_over c =
    let t = c.domain.ensures.tiles in
    omega
    (arith, slice_get_within c.args.set.now.places c.in-Some-coarser_over.j _ c.in-Some-coarser_over.ensures.found.1, length-IsMesh_limit c.args.set.now.grid c.args.set.now.places t.domain t.mesh)

pub returns-in-Some-coarser_over : goal.returns-in-Some-coarser_over
returns-in-Some-coarser_over c =
    let q = c.in-Some.beyond in
    let o = c.in-Some-coarser_over.ensures.found in
    let step = subst (λ g. IsBeyond g c.place.result c.args.d q) c.domain.ensures.grid c.in-Some.ensures.found in
    let over : IsCoarserOver c.args.set.now.places q c.in-Some-coarser_over.j (parent_of q) =
    record {
      leaf = o.1;
      coarser = let l = o.0 in omega arith;
      covers = covers-Contains 1 (parent_of q) q (Contains-parent_of q o.0);
    } in
    record { cover = (c.place.result, c.place.ensures.leaf, (q, step, (parent_of q, over))) }

pub leaves_against-requires-clause-room : goal.leaves_against-requires-clause-room
leaves_against-requires-clause-room c =
    let t = c.domain.ensures.tiles in
    let q = c.in-Some.beyond in
    let step = subst (λ g. IsBeyond g c.place.result c.args.d q) c.domain.ensures.grid c.in-Some.ensures.found in
    omega
    (arith, t.domain.finest, below_finest c.args.set.now.grid c.args.set.now.places t.domain t.mesh t.balanced c.args.b c.place.result q c.args.d c.place.ensures.leaf c.in-Some.ensures.limits step (c.in_default-position.ensures.none.0 refl) (c.in_default-coarser_over.ensures.none refl))

pub leaves_against-requires-clause-leaves : goal.leaves_against-requires-clause-leaves
leaves_against-requires-clause-leaves c k l near =
    let t = c.domain.ensures.tiles in
    let q = c.in-Some.beyond in
    let step = subst (λ g. IsBeyond g c.place.result c.args.d q) c.domain.ensures.grid c.in-Some.ensures.found in
    IsLeaf-LiesAgainst c.args.set.now.grid c.args.set.now.places t.domain t.mesh t.balanced c.args.b c.place.result q c.args.d c.place.ensures.leaf c.in-Some.ensures.limits step (c.in_default-position.ensures.none.0 refl)
    (c.in_default-coarser_over.ensures.none refl)
    (child_of q k)
    (LiesAgainst-child_of c.args.d q k l near)

pub returns : goal.returns
returns c =
    let q = c.in-Some.beyond in
    let step = subst (λ g. IsBeyond g c.place.result c.args.d q) c.domain.ensures.grid c.in-Some.ensures.found in
    record { cover = (c.place.result, c.place.ensures.leaf, (q, step, c.leaves_against.ensures.against)) }

-- The touching leaves, and the faces.
use Rattle.std.proofs.Common.{◌≡◌, ℕ, List, Some, get_or, sym, subst, arith}
use Rattle.std.specs.Prelude.{slice_get}
use Rattle.std.proofs.lemmas.Option.{get_or_from_slice_get, slice_get_within}
use Rattle.phase_core.specs.Lemmas.Lookups.{Contains-get}
use Rattle.cello_neighbours.proofs.Gatherings.{AreTouching-below}
use Rattle.flux_register.proofs.CoarserAcross.{none_coarser}
use Rattle.flux_register.proofs.coarse_faces.has_none_coarser.Goals as goal

pub place-requires-in-loop-leaf : goal.place-requires-in-loop-leaf
place-requires-in-loop-leaf c =
    let set = c.args.set.now in
    record { inside = AreTouching-below set.grid set.places c.args.at c.in-Some.touching.now c.requires.leaf c.in-Some.ensures.touching c.loop-leaf.leaf-index 0 c.loop-leaf-test.true }

pub returns : goal.returns
returns c = record {
  none = λ _ face is from.
      let set = c.args.set.now in
      let list : List ℕ = c.in-Some.touching.now in
      none_coarser set c.requires.tiles c.args.at c.place.result list c.place.ensures.leaf c.in-Some.ensures.touching
      (λ j x inside here.
      let g = Contains-get list j inside in
      let is_j : get_or list g.0 0 ≡ j = get_or_from_slice_get list g.0 j 0 g.1 in
      let within = slice_get_within list g.0 j g.1 in
      let end = c.loop-leaf-test.false in
      let fine = c.loop-leaf.invariant.fine g.0 x (omega (arith, within, end)) (subst (λ (n : ℕ). slice_get set.places n ≡ Some x) (sym is_j) here) in
      let level = c.level-level.ensures.level in
      omega (arith, fine, level)) face is from;
}

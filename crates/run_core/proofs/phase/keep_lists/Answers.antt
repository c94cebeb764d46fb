-- The next mesh is the mesh that the phase was over.
use Rattle.std.proofs.Common.{◌≡◌, true, List, sym, ◌∙◌, subst}
use Rattle.std.specs.Bool.{Decides}
use Rattle.std.proofs.lemmas.Slice.Eq.{slice_eq-Decides}
use Rattle.block_index.specs.Places.{Cube}
use Rattle.block_index.proofs.Equality.{place_eq, same_from_place_eq, place_eq-itself}
use Rattle.leaf_set.specs.TouchingLeaves.{AreTouching}
use Rattle.adapt_core.specs.Problem.{mesh_of}
use Rattle.run_core.proofs.phase.keep_lists.Goals as goal

place_eq-Decides : (a c : Cube) → Decides (place_eq a c) (a ≡ c)
place_eq-Decides a c = (same_from_place_eq a c, λ e. subst (λ (v : Cube). place_eq a v ≡ true) e (place_eq-itself a))

pub keep_touching-requires : goal.keep_touching-requires
keep_touching-requires c =
    let next = c.args.next.now in
    let same : next.places ≡ c.args.set.now.places =
    sym c.places.ensures.places
    ∙ (slice_eq-Decides place_eq-Decides c.places.result.now c.places-2.result.now c.eq.result c.eq.ensures).0 c.if-eq.true
    ∙ c.places-2.ensures.places in
    let grid = c.requires.same_grid ∙ sym c.requires.grid in
    let mesh : mesh_of c.args.quiet.problem ≡ next.places = c.requires.places ∙ sym same in
    record {
      touching = λ i list at.
          subst (λ (m : List Cube). AreTouching next.grid m i list.items) mesh
          (subst (λ g. AreTouching g (mesh_of c.args.quiet.problem) i list.items) grid (c.in_ok-touching_lists.ensures.touching i list at));
    }

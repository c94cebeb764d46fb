-- The parts of all leaves of a mesh make a problem, and first cells with these parts begin its phase.
use Rattle.std.proofs.Common.{◌≡◌, ℕ, List, Some, length, sym, ap, ◌∙◌, subst}
use Rattle.std.proofs.lemmas.List.{length-map}
use Rattle.phase_core.specs.Lemmas.ListsByPlaces.{Has, Has-map, same_map}
use Rattle.phase_core.specs.Lemmas.Lookups.{get-map_back}
use Rattle.block_index.specs.Places.{Cube, Grid}
use Rattle.block_index.specs.declared.wish.Wish.{Wish}
use Rattle.leaf_set.specs.Meshes.{IsMesh, IsBalanced}
use Rattle.leaf_set.specs.Opening.{IsOpening}
use Rattle.leaf_set.specs.Tiling.{IsTiling}
use Rattle.adapt_core.specs.Cells.{LeafPart, LeafState, AdaptProblem}
use Rattle.adapt_core.specs.Problem.{mesh_of, wishes_of, openings_of, IsPartAt, IsAdaptProblem, AdaptBegins, unopened, problem_of}
use Rattle.adapt_core.specs.Lemmas.FirstCells.{IsPartOf, AreFirstCells}

module _ (grid : Grid) (mesh : List Cube) (wishes : List Wish) (openings : List ℕ) (tiles : IsTiling (record { grid = grid; places = mesh })) (long : length wishes ≡ length mesh) (opening : IsOpening grid mesh wishes openings)
    (parts : List LeafPart) (are : Has (IsPartOf grid mesh wishes openings) (length mesh) parts) where
  abbrev problem : AdaptProblem
  problem = record { grid = grid; parts = parts }

  pub parts_mesh : mesh_of problem ≡ mesh
  parts_mesh = same_map (λ (x : LeafPart). x.place) parts mesh are.many (λ i x at. (are.each i x at).place)

  pub parts_wishes : wishes_of problem ≡ wishes
  parts_wishes = same_map (λ (x : LeafPart). x.wish) parts wishes (are.many ∙ sym long) (λ i x at. (are.each i x at).wish)

  parts_openings : openings_of problem ≡ openings
  parts_openings = same_map (λ (x : LeafPart). x.opening) parts openings (are.many ∙ sym opening.one_each) (λ i x at. (are.each i x at).opening)

  pub IsAdaptProblem-parts : IsAdaptProblem problem
  IsAdaptProblem-parts = record {
    domain = tiles.domain;
    mesh = subst (IsMesh grid) (sym parts_mesh) tiles.mesh;
    balanced = subst (IsBalanced grid) (sym parts_mesh) tiles.balanced;
    opening =
        subst (λ m. IsOpening grid m (wishes_of problem) (openings_of problem)) (sym parts_mesh)
        (subst (λ w. IsOpening grid mesh w (openings_of problem)) (sym parts_wishes)
        (subst (IsOpening grid mesh wishes) (sym parts_openings) opening));
    parts = λ i x at. subst (λ m. IsPartAt grid m i x) (sym parts_mesh) (are.each i x at).is;
  }

module _ (grid : Grid) (mesh : List Cube) (wishes : List Wish) (cells : List LeafState) (tiles : IsTiling (record { grid = grid; places = mesh })) (long : length wishes ≡ length mesh) (are : AreFirstCells grid mesh wishes cells) where
  first_parts : Has (IsPartOf grid mesh wishes are.openings) (length mesh) (problem_of grid cells).parts
  first_parts =
      Has-map (IsPartOf grid mesh wishes are.openings) (λ (c : LeafState). c.part) (length mesh) cells
      (record { many = are.cells_are.many; each = λ i c at. (are.cells_are.each i c at).part })

  pub first_mesh : mesh_of (problem_of grid cells) ≡ mesh
  first_mesh = parts_mesh grid mesh wishes are.openings tiles long are.opening (problem_of grid cells).parts first_parts

  pub first_wishes : wishes_of (problem_of grid cells) ≡ wishes
  first_wishes = parts_wishes grid mesh wishes are.openings tiles long are.opening (problem_of grid cells).parts first_parts

  pub first_begins : AdaptBegins (problem_of grid cells) cells
  first_begins = record {
    problem = IsAdaptProblem-parts grid mesh wishes are.openings tiles long are.opening (problem_of grid cells).parts first_parts;
    begun = sym (same_map unopened (problem_of grid cells).parts cells (length-map cells (λ (c : LeafState). c.part)) (λ i part at.
        let c = get-map_back (λ (x : LeafState). x.part) cells i part at in
        c.1 ∙ ap Some ((are.cells_are.each i c.0 c.1).fresh ∙ ap unopened c.2)));
  }

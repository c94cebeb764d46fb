-- The lists of touching leaves that cells at rest have.
use Rattle.std.proofs.Common.{◌≡◌, ℕ, List, [], Some, Vec, Global, map, subst}
use Rattle.std.specs.Prelude.{slice_get}
use Rattle.phase_core.specs.Lemmas.Lookups.{get-map, get-map_back}
use Rattle.leaf_set.specs.TouchingLeaves.{AreTouching}
use Rattle.adapt_core.specs.Cells.{LeafPart, LeafState, AdaptProblem}
use Rattle.adapt_core.specs.Problem.{mesh_of}
use Rattle.adapt_core.specs.Holds.{AdaptHolds}

pub taken : (p : AdaptProblem) (cells : List LeafState) (lists : List (Vec ℕ Global)) → AdaptHolds p cells [] → map (λ (v : Vec ℕ Global). v.items) lists ≡ map (λ (c : LeafState). c.part.neighbours) cells
    → (i : ℕ) (list : Vec ℕ Global) → slice_get lists i ≡ Some list → AreTouching p.grid (mesh_of p) i list.items
taken p cells lists holds same i list at =
    let mine : slice_get (map (λ (c : LeafState). c.part.neighbours) cells) i ≡ Some list.items =
    subst (λ (l : List (List ℕ)). slice_get l i ≡ Some list.items) same (get-map (λ (v : Vec ℕ Global). v.items) lists i list at) in
    let c = get-map_back (λ (c : LeafState). c.part.neighbours) cells i list.items mine in
    let part : slice_get p.parts i ≡ Some c.0.part = subst (λ (l : List LeafPart). slice_get l i ≡ Some c.0.part) holds.parts (get-map (λ (x : LeafState). x.part) cells i c.0 c.1) in
    subst (AreTouching p.grid (mesh_of p) i) c.2 (holds.problem.parts i c.0.part part).touching

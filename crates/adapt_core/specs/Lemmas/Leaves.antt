-- What the cells, the parts and the mesh of a valid problem say of one another.
use Rattle.std.proofs.Common.{◌≡◌, ℕ, List, Some, map, length, sym, ap, ◌∙◌, subst}
use Rattle.std.specs.Prelude.{Contains, slice_get, slice_index}
use Rattle.std.proofs.lemmas.List.{length-map}
use Rattle.std.proofs.lemmas.Option.{get_or_from_slice_get}
use Rattle.block_index.specs.Places.{Cube}
use Rattle.block_index.specs.Touching.{Touches}
use Rattle.adapt_core.specs.Cells.{LeafPart, LeafState, AdaptProblem}
use Rattle.adapt_core.specs.Problem.{mesh_of, openings_of, IsPartAt, IsAdaptProblem}
use Rattle.phase_core.specs.Lemmas.Lookups.{get-map, get-map_back}

module _ (p : AdaptProblem) (cells : List LeafState) (valid : IsAdaptProblem p) (parts : map (λ cell. cell.part) cells ≡ p.parts) where
  pub get_part : (i : ℕ) (c : LeafState) → slice_get cells i ≡ Some c → slice_get p.parts i ≡ Some c.part
  get_part i c h = subst (λ xs. slice_get xs i ≡ Some c.part) parts (get-map (λ (x : LeafState). x.part) cells i c h)

  pub part_at : (i : ℕ) (c : LeafState) → slice_get cells i ≡ Some c → IsPartAt p.grid (mesh_of p) i c.part
  part_at i c h = valid.parts i c.part (get_part i c h)

  pub get_place : (i : ℕ) (c : LeafState) → slice_get cells i ≡ Some c → slice_get (mesh_of p) i ≡ Some c.part.place
  get_place i c h = get-map (λ (x : LeafPart). x.place) p.parts i c.part (get_part i c h)

  pub opening_at : (i : ℕ) (c : LeafState) → slice_get cells i ≡ Some c → slice_index (openings_of p) i ≡ c.part.opening
  opening_at i c h = get_or_from_slice_get (openings_of p) i c.part.opening 0 (get-map (λ (x : LeafPart). x.opening) p.parts i c.part (get_part i c h))

  -- the cell of a leaf
  pub get_cell : (i : ℕ) (q : Cube) → slice_get (mesh_of p) i ≡ Some q → (c : LeafState) × (slice_get cells i ≡ Some c) × (c.part.place ≡ q)
  get_cell i q h =
      let g = get-map_back (λ (x : LeafPart). x.place) p.parts i q h in
      let at : slice_get (map (λ (x : LeafState). x.part) cells) i ≡ Some g.0 = subst (λ xs. slice_get xs i ≡ Some g.0) (sym parts) g.1 in
      let f = get-map_back (λ (x : LeafState). x.part) cells i g.0 at in
      (f.0, f.1, ap (λ (x : LeafPart). x.place) f.2 ∙ g.2)

  -- a neighbour in a cell's list is a cell that touches it ..
  pub neighbour_touches : (i : ℕ) (c : LeafState) → slice_get cells i ≡ Some c → (j : ℕ) → Contains c.part.neighbours j → (b : LeafState) × (slice_get cells j ≡ Some b) × Touches p.grid c.part.place b.part.place
  neighbour_touches i c here j listed =
      let t = (part_at i c here).touching.touch j c.part.place listed (get_place i c here) in
      let g = get_cell j t.0 t.1 in
      (g.0, g.1, subst (λ q. Touches p.grid c.part.place q) (sym g.2) t.2)

  -- .. and each such cell is in the list
  pub touching_listed : (i j : ℕ) (c b : LeafState) → slice_get cells i ≡ Some c → slice_get cells j ≡ Some b → Touches p.grid c.part.place b.part.place → Contains c.part.neighbours j
  touching_listed i j c b here there touch =
      (part_at i c here).touching.all j c.part.place b.part.place (get_place i c here) (get_place j b there) touch

  pub length_cells : length cells ≡ length (mesh_of p)
  length_cells = sym (length-map cells (λ cell. cell.part)) ∙ (ap length parts ∙ sym (length-map p.parts (λ part. part.place)))

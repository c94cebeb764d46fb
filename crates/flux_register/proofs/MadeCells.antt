-- Bare cells, and cells that have their pieces.
use Rattle.std.proofs.Common.{◌≡◌, ℕ, ◌<◌, List, Some, length, map, refl, sym, ap, ◌∙◌, subst, arith}
use Rattle.std.specs.Prelude.{slice_get}
use Rattle.std.specs.List.{zip}
use Rattle.std.proofs.lemmas.List.{length-map}
use Rattle.std.proofs.lemmas.Option.{slice_get_within}
use Rattle.std.proofs.lemmas.Slice.Zip.{firsts-zip, seconds-zip}
use Rattle.phase_core.specs.Lemmas.Lookups.{get-map, get-map_back}
use Rattle.phase_core.specs.Lemmas.ListsByPlaces.{same_map}
use Rattle.owed_phase.specs.Lemmas.Moves.{get-some}
use Rattle.block_index.specs.Places.{Cube, Grid}
use Rattle.leaf_set.specs.Tiling.{IsTiling}
use Rattle.block_fields.specs.Blocks.{BlockState}
use Rattle.block_fields.specs.BlockStates.{AreBlocksOf}
use Rattle.advect.specs.FaceFluxes.{FaceFluxState}
use Rattle.flux_register.specs.Cells.{FluxState}
use Rattle.flux_register.specs.Lemmas.FirstCells.{IsFirstCell, AreFirstCells, bare}
use Rattle.flux_register.proofs.Beginning.{places-long}

abbrev pub bare_of : BlockState × FaceFluxState → FluxState
bare_of p = bare p.0 p.1

module _ (blocks : List BlockState) (faces : List FaceFluxState) (same : length faces ≡ length blocks) (cells : List FluxState) (is : cells ≡ map bare_of (zip blocks faces)) where
  -- there is one for each block
  bare-long : length cells ≡ length blocks
  bare-long =
      let a = ap length is in
      let b = length-map (zip blocks faces) bare_of in
      let c = ap length (firsts-zip blocks faces same) in
      let d = length-map (zip blocks faces) (λ (p : BlockState × FaceFluxState). p.0) in
      omega (arith, a, b, c, d)

  -- each is bare, with the block and the fluxes of its place
  bare_at : (i : ℕ) (c : FluxState) → slice_get cells i ≡ Some c → (p : BlockState × FaceFluxState) × (slice_get blocks i ≡ Some p.0) × (slice_get faces i ≡ Some p.1) × (bare_of p ≡ c)
  bare_at i c here =
      let found = get-map_back bare_of (zip blocks faces) i c (subst (λ (l : List FluxState). slice_get l i ≡ Some c) is here) in
      let p = found.0 in (
        p,
        subst (λ (l : List BlockState). slice_get l i ≡ Some p.0) (firsts-zip blocks faces same) (get-map (λ (x : BlockState × FaceFluxState). x.0) (zip blocks faces) i p found.1),
        subst (λ (l : List FaceFluxState). slice_get l i ≡ Some p.1) (seconds-zip blocks faces same) (get-map (λ (x : BlockState × FaceFluxState). x.1) (zip blocks faces) i p found.1),
        found.2,
      )

  -- a bare cell can be given its pieces
  pub bare-each : (grid : Grid) (places : List Cube) (tiles : IsTiling (record { grid = grid; places = places })) (n fields depth : ℕ) → AreBlocksOf places n fields depth blocks
      → (i : ℕ) (c : FluxState) → slice_get cells i ≡ Some c → (c ≡ bare c.block c.faces) × (i < length places)
  bare-each grid places tiles n fields depth sized i c here =
      let found = bare_at i c here in
      let within = slice_get_within cells i c here in
      let long = places-long grid places tiles blocks n fields depth sized in
      (subst (λ (x : FluxState). x ≡ bare x.block x.faces) found.3 refl, omega (arith, within, bare-long, long))

  -- where each has its pieces, they are the first cells
  pub all-first : (grid : Grid) (places : List Cube) (made : List FluxState) → length made ≡ length cells
      → ((i : ℕ) (c d : FluxState) → slice_get cells i ≡ Some c → slice_get made i ≡ Some d → IsFirstCell grid places i d × (d.block ≡ c.block) × (d.faces ≡ c.faces))
      → AreFirstCells grid places blocks faces made
  all-first grid places made long each =
      let of : (i : ℕ) (d : FluxState) → slice_get made i ≡ Some d → (c : FluxState) × (slice_get cells i ≡ Some c) =
      λ i d here. get-some cells i (let l = slice_get_within made i d here in omega (arith, l, long)) in
      record {
        made = same_map (λ (c : FluxState). c.block) made blocks (omega (arith, long, bare-long)) (λ i d here.
            let c = of i d here in
            let p = bare_at i c.0 c.1 in
            p.1 ∙ ap (λ z. Some z) (ap (λ (x : FluxState). x.block) p.3 ∙ sym (each i c.0 d c.1 here).1));
        fluxes = same_map (λ (c : FluxState). c.faces) made faces (omega (arith, long, bare-long, same)) (λ i d here.
            let c = of i d here in
            let p = bare_at i c.0 c.1 in
            p.2 ∙ ap (λ z. Some z) (ap (λ (x : FluxState). x.faces) p.3 ∙ sym (each i c.0 d c.1 here).2));
        each = λ i d here.
            let c = of i d here in
            (each i c.0 d c.1 here).0;
      }

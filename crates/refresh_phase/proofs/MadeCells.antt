-- Bare cells, and cells that have their pieces.
use Rattle.std.proofs.Common.{◌≡◌, ℕ, List, Some, length, map, refl, sym, ap, ◌∙◌, subst, arith}
use Rattle.std.specs.Prelude.{slice_get}
use Rattle.std.proofs.lemmas.List.{length-map}
use Rattle.std.proofs.lemmas.Option.{slice_get_within}
use Rattle.phase_core.specs.Lemmas.Lookups.{get-map, get-map_back}
use Rattle.phase_core.specs.Lemmas.ListsByPlaces.{same_map}
use Rattle.owed_phase.specs.Lemmas.Moves.{get-some}
use Rattle.block_index.specs.Places.{Cube, Grid}
use Rattle.leaf_set.specs.Tiling.{IsTiling}
use Rattle.block_fields.specs.Blocks.{BlockState, IsBlock}
use Rattle.block_fields.specs.BlockStates.{AreBlocksOf}
use Rattle.refresh_phase.specs.Cells.{LeafState}
use Rattle.refresh_phase.specs.Lemmas.FirstCells.{IsFirstCell, AreFirstCells, bare}
use Rattle.refresh_phase.proofs.Beginning.{block_place}

-- a bare cell can be given its pieces
pub bare-each : (grid : Grid) (places : List Cube) (tiles : IsTiling (record { grid = grid; places = places })) (blocks : List BlockState) (n fields depth : ℕ)
    → AreBlocksOf places n fields depth blocks → (cells : List LeafState) → cells ≡ map bare blocks → (i : ℕ) (c : LeafState) → slice_get cells i ≡ Some c
    → (c ≡ bare c.block) × (slice_get places i ≡ Some c.block.place) × IsBlock c.block
bare-each grid places tiles blocks n fields depth sized cells is i c here =
    let found = get-map_back bare blocks i c (subst (λ (l : List LeafState). slice_get l i ≡ Some c) is here) in
    subst (λ (x : LeafState). (x ≡ bare x.block) × (slice_get places i ≡ Some x.block.place) × IsBlock x.block) found.2
    (refl, block_place grid places tiles blocks n fields depth sized i found.0 found.1, (sized.each i found.0 found.1).limits)

-- where each has its pieces, they are the first cells
pub all-first : (grid : Grid) (places : List Cube) (blocks : List BlockState) (cells made : List LeafState) → cells ≡ map bare blocks → length made ≡ length cells
    → ((i : ℕ) (c d : LeafState) → slice_get cells i ≡ Some c → slice_get made i ≡ Some d → IsFirstCell grid places i d × (d.block ≡ c.block)) → AreFirstCells grid places blocks made
all-first grid places blocks cells made is long each =
    let long_blocks : length cells ≡ length blocks = ap length is ∙ length-map blocks bare in
    let of : (i : ℕ) (d : LeafState) → slice_get made i ≡ Some d → (b : BlockState) × (slice_get blocks i ≡ Some b) × (IsFirstCell grid places i d × (d.block ≡ b)) =
    λ i d here.
    let b = get-some blocks i (let l = slice_get_within made i d here in omega (arith, l, long, long_blocks)) in
    (b.0, b.1, each i (bare b.0) d (subst (λ (l : List LeafState). slice_get l i ≡ Some (bare b.0)) (sym is) (get-map bare blocks i b.0 b.1)) here) in
    record {
      made = same_map (λ (c : LeafState). c.block) made blocks (omega (arith, long, long_blocks)) (λ i d here.
          let b = of i d here in
          b.1 ∙ ap (λ z. Some z) (sym b.2.1));
      each = λ i d here. (of i d here).2.0;
    }

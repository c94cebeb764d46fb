-- What the piece of a region carries are the samples of its cells.
use Rattle.std.proofs.Common.{◌≡◌, ℕ, zero, suc, ◌*◌, ◌/◌, ◌%◌, ◌<◌, sym, ◌∙◌, subst, arith, List, [], Some, slice_get, slice_index_or, map}
use Rattle.std.specs.List.{range_with_len}
use Rattle.std.proofs.lemmas.Nat.{div_below, mod_below}
use Rattle.std.proofs.lemmas.List.FromFn.{fill_by_all, length-map-range_with_len, get_or-map-range_with_len}
use Rattle.std.proofs.lemmas.Option.{same_Some}
use Rattle.block_index.specs.Places.{Cube}
use Rattle.block_fields.specs.States.{State, IsState}
use Rattle.block_fields.specs.Samples.{sample}
use Rattle.ghost_pieces.specs.Ghosts.{Local, IsSource, ghost_cell}
use Rattle.ghost_pieces.specs.Boxes.{Box, IsInBox, region_box, cell_in, box_size}
use Rattle.ghost_pieces.specs.Regions.{Region, IsRegionCell}
use Rattle.ghost_pieces.specs.Sent.{offset, sent, piece_amounts}
use Rattle.ghost_pieces.proofs.SentSamples.{sample-sent}

pub cell_in_box : (p : Box) (i : ℕ) → i < box_size p → IsInBox p (cell_in p i)
cell_in_box p i h =
    let cx = p.x.count in
    let cy = p.y.count in
    let cz = p.z.count in
    let some_x : 0 < cx = factor (cz * cy) cx i h in
    let below : i / cx < cz * cy = div_below i cx (cz * cy) some_x h in
    let some_y : 0 < cy = factor cz cy (i / cx) below in
    let a = mod_below i cx some_x in
    let b = mod_below (i / cx) cy some_y in
    let c : i / cx / cy < cz = div_below (i / cx) cy cz some_y below in
    record {
      x = record { from = omega arith; below = omega arith };
      y = record { from = omega arith; below = omega arith };
      z = record { from = omega arith; below = omega arith };
    }
  where
    factor : (k c i : ℕ) → i < k * c → 0 < c
    factor k zero i h = absurd (omega arith)
    factor k (suc c) i h = omega arith

pub same_map : (f g : ℕ → ℕ) (n : ℕ) → ((i : ℕ) → i < n → f i ≡ g i) → map f (range_with_len 0 n) ≡ map g (range_with_len 0 n)
same_map f g n h =
    let xs = map g (range_with_len 0 n) in
    sym (fill_by_all f xs n 0 (length-map-range_with_len g 0 n) (λ i l. get_or-map-range_with_len g 0 n i i 0 l (omega arith) ∙ sym (h i l)))

module _ (s : State) (w : IsState s) (d : ℕ) (even : s.edge % 2 ≡ 0) (f : ℕ) (r : Region) (b a : Cube) (blk : List (List ℕ)) where
  -- one cell
  pub cell-sent : (g : Local) → slice_get s.leaves r.receiver ≡ Some b → slice_get s.leaves r.sender ≡ Some a → slice_get s.amounts r.sender ≡ Some blk → IsRegionCell s.grid s.edge d s.leaves r g → sample s f (ghost_cell s.grid s.edge d b g) ≡ sent s.edge b.level a.level (slice_index_or blk f []) (offset s.grid s.edge d b a g)
  cell-sent g there at has x =
      let eb : x.block ≡ b = same_Some x.block b (sym x.receives ∙ there) in
      let ea : x.source ≡ a = same_Some x.source a (sym x.sends ∙ at) in
      let held : IsSource s.edge a (ghost_cell s.grid s.edge d b g) = subst (λ u. IsSource s.edge u (ghost_cell s.grid s.edge d b g)) ea (subst (λ u. IsSource s.edge x.source (ghost_cell s.grid s.edge d u g)) eb x.held) in
      sample-sent s w (s.edge / 2) d (let e : s.edge ≡ 2 * (s.edge / 2) = omega arith in e) f r.sender a (ghost_cell s.grid s.edge d b g) blk at has held

  -- all in order
  pub piece-sent : slice_get s.leaves r.receiver ≡ Some b → slice_get s.leaves r.sender ≡ Some a → slice_get s.amounts r.sender ≡ Some blk → ((g : Local) → IsInBox (region_box s.edge d b r.direction a) g → IsRegionCell s.grid s.edge d s.leaves r g)
      → map (λ i. sample s f (ghost_cell s.grid s.edge d b (cell_in (region_box s.edge d b r.direction a) i))) (range_with_len 0 (box_size (region_box s.edge d b r.direction a)))
      ≡ piece_amounts s.grid s.edge d b r.direction a (slice_index_or blk f [])
  piece-sent there at has cells =
      let p = region_box s.edge d b r.direction a in
      same_map (λ i. sample s f (ghost_cell s.grid s.edge d b (cell_in p i))) (λ i. sent s.edge b.level a.level (slice_index_or blk f []) (offset s.grid s.edge d b a (cell_in p i))) (box_size p) (λ i l.
      cell-sent (cell_in p i) there at has (cells (cell_in p i) (cell_in_box p i l)))

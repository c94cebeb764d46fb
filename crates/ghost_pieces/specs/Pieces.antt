-- Pieces: what carries the samples of a region from the leaf that holds them to the leaf whose ghosts they become.
use Rattle.std.specs.Prelude.{◌≡◌, ℕ, ◌+◌, ◌≤◌, true, List, Some, length, map, replicate, slice_get}
use Rattle.std.specs.List.{range_with_len}
use Rattle.block_index.specs.Beyond.{Offset}
use Rattle.block_index.specs.Places.{Cube, Grid, IsInside}
use Rattle.block_fields.specs.Blocks.{BlockState}
use Rattle.block_fields.specs.Samples.{sample}
use Rattle.block_fields.specs.States.{State}
use Rattle.ghost_pieces.specs.Ghosts.{ghost_cell}
use Rattle.ghost_pieces.specs.Boxes.{Box, box_size, cell_in, has_cells, has_region, region_box}
use Rattle.ghost_pieces.specs.Regions.{Region, IsRegion, AreOwed}
use Rattle.ghost_pieces.specs.Sent.{piece_amounts}

-- A piece: its region, the places of the two leaves, and for each field the amounts of the region's cells, x fastest.
pub record PieceState : Type 0 where
  pub region : Region
  pub receiver : Cube
  pub sender : Cube
  pub amounts : List (List ℕ)

-- the box of its region
abbrev pub box_of : ℕ → ℕ → PieceState → Box
box_of n d p = region_box n d p.receiver p.region.direction p.sender

-- The piece has the size of its region, for blocks of edge n, d ghosts deep, of so many fields: its leaves are at most
-- one level apart, its box has cells, and for each field it has one amount a cell.
pub record FitsSize (n d fields : ℕ) (p : PieceState) : Type 0 where
  pub near : p.receiver.level ≤ p.sender.level + 1
  pub far : p.sender.level ≤ p.receiver.level + 1
  pub cells : has_cells (box_of n d p) ≡ true
  pub one_each : length p.amounts ≡ fields
  pub all_cells : (f : ℕ) (q : List ℕ) → slice_get p.amounts f ≡ Some q → length q ≡ box_size (box_of n d p)

-- there is a region between its two places
pub record HasRegion (grid : Grid) (n d : ℕ) (p : PieceState) : Type 0 where
  pub inside : IsInside grid p.receiver
  pub reached : has_region grid n d p.receiver p.region.direction p.sender ≡ true

-- the places of the piece are the leaves that its region names
pub record IsBetweenLeaves (mesh : List Cube) (p : PieceState) : Type 0 where
  pub receives : slice_get mesh p.region.receiver ≡ Some p.receiver
  pub sends : slice_get mesh p.region.sender ≡ Some p.sender

-- as many amounts as the region has cells, each 0, for each field
abbrev pub zero_amounts : ℕ → ℕ → ℕ → PieceState → List (List ℕ)
zero_amounts n d fields p = replicate fields (replicate (box_size (box_of n d p)) 0)

-- the empty piece of a region of the leaf b at j whose samples the leaf s at i holds
abbrev pub empty_piece : ℕ → ℕ → ℕ → ℕ → Cube → ℕ → Cube → Offset → PieceState
empty_piece n d fields j b i s dir = record {
  region = record { receiver = j; sender = i; direction = dir };
  receiver = b;
  sender = s;
  amounts = replicate fields (replicate (box_size (region_box n d b dir s)) 0);
}

-- What the leaf at i owes: a piece for each region whose samples it holds, all amounts 0.
pub record AreOwedPieces (grid : Grid) (n d fields : ℕ) (mesh : List Cube) (i : ℕ) (ps : List PieceState) : Type 0 where
  pub regions : AreOwed grid n d mesh i (map (λ p. p.region) ps)
  pub leaves : (k : ℕ) (p : PieceState) → slice_get ps k ≡ Some p → IsBetweenLeaves mesh p
  pub zeros : (k : ℕ) (p : PieceState) → slice_get ps k ≡ Some p → p.amounts ≡ zero_amounts n d fields p

-- the most pieces that a leaf owes: one for each direction to itself and to each leaf that touches it
abbrev pub most_owed : ℕ
most_owed = 1482

-- the piece with the samples that the block b, its sender, gives
abbrev pub filled : Grid → BlockState → PieceState → PieceState
filled grid b p =
    record p { amounts = map (piece_amounts grid b.edge b.depth p.receiver p.region.direction p.sender) b.amounts }

-- The piece is that of a region of a state's mesh, and carries the samples of the region's cells, for every field.
pub record CarriesSamples (s : State) (d : ℕ) (p : PieceState) : Type 0 where
  pub leaves : IsBetweenLeaves s.leaves p
  pub region : IsRegion s.grid s.edge d s.leaves p.region
  pub samples : p.amounts ≡ map (λ f. map (λ i. sample s f (ghost_cell s.grid s.edge d p.receiver (cell_in (box_of s.edge d p) i)))
      (range_with_len 0 (box_size (box_of s.edge d p)))) (range_with_len 0 s.fields)

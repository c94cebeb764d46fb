-- The cells with which a phase over the blocks of a mesh begins.
use Rattle.std.specs.Prelude.{◌≡◌, ℕ, ◌≤◌, false, List, [], Some, length, map, slice_get}
use Rattle.block_index.specs.Places.{Cube, Grid}
use Rattle.block_fields.specs.Blocks.{BlockState, IsBlock}
use Rattle.ghost_pieces.specs.Pieces.{AreOwedPieces, most_owed}
use Rattle.refresh_phase.specs.Cells.{LeafState, header}

-- the cell of the block of leaf i: nothing is filed, and it owes all pieces of the leaf, which hold only 0
pub record IsFirstCell (grid : Grid) (mesh : List Cube) (i : ℕ) (c : LeafState) : Type 0 where
  pub limits : IsBlock c.block
  pub filed : c.filed ≡ []
  pub started : c.started ≡ false
  pub owed : AreOwedPieces grid c.block.edge c.block.depth (length c.block.amounts) mesh i c.owed
  pub owes : c.owes ≡ map header c.owed
  pub few : length c.owed ≤ most_owed

-- a cell without the pieces that it owes
abbrev pub bare : BlockState → LeafState
bare b = record { block = b; owes = []; filed = []; owed = []; started = false }

-- one for each block
pub record AreFirstCells (grid : Grid) (mesh : List Cube) (blocks : List BlockState) (cells : List LeafState) : Type 0 where
  pub made : map (λ c. c.block) cells ≡ blocks
  pub each : (i : ℕ) (c : LeafState) → slice_get cells i ≡ Some c → IsFirstCell grid mesh i c

-- When a cell can fill and send all that it owes.
use Rattle.std.specs.Prelude.{◌≡◌, ℕ, ◌≤◌, ◌^◌, Contains, length, sum}
use Rattle.block_index.specs.Places.{Grid}
use Rattle.block_fields.specs.Blocks.{BlockState, amounts_of}
use Rattle.ghost_pieces.specs.Pieces.{PieceState, FitsSize, HasRegion}
use Rattle.refresh_phase.specs.Cells.{LeafState}

-- a piece that the block can fill
pub record CanFill (grid : Grid) (b : BlockState) (q : PieceState) : Type 0 where
  pub sender : q.sender ≡ b.place
  pub region : HasRegion grid b.edge b.depth q
  pub fits : FitsSize b.edge b.depth (length b.amounts) q

pub record CanSend (grid : Grid) (c : LeafState) : Type 0 where
  pub each : (q : PieceState) → Contains c.owed q → CanFill grid c.block q
  pub few : (f : ℕ) → sum (amounts_of c.block f) ≤ 2 ^ 42

-- When a cell can sum up what it owes, and when it can be corrected.
use Rattle.std.specs.Prelude.{◌≡◌, ℕ, ◌<◌, true, List, Contains, length}
use Rattle.block_fields.specs.Blocks.{IsBlock, amount_at}
use Rattle.advect.specs.FaceFluxes.{FaceFluxState}
use Rattle.advect.specs.FluxPieces.{FluxPieceState, StaysWithin, is_behind}
use Rattle.flux_register.specs.Cells.{FluxState}

-- these pieces are of the size of the fluxes
pub record CanReduce (faces : FaceFluxState) (owed : List FluxPieceState) : Type 0 where
  pub edge : (q : FluxPieceState) → Contains owed q → q.edge ≡ faces.edge
  pub fields : (q : FluxPieceState) → Contains owed q → length q.sums ≡ faces.fields

-- the piece is of the size of the cell, and each flux can be replaced by the piece's sum
pub record CanCorrect (c : FluxState) (q : FluxPieceState) : Type 0 where
  pub limits : IsBlock c.block
  pub edge : c.faces.edge ≡ c.block.edge
  pub same_edge : q.edge ≡ c.block.edge
  pub fields : c.faces.fields ≡ length c.block.amounts
  pub same_fields : length q.sums ≡ length c.block.amounts
  pub stays : (f x y z : ℕ) → f < length c.block.amounts → x < c.block.edge → y < c.block.edge → z < c.block.edge →
      is_behind q x y z ≡ true → StaysWithin c.faces q f x y z (amount_at c.block f x y z)

-- Pieces of blocks of two fields.
use Rattle.std.specs.Prelude.{◌≡◌, ℕ, List, Some, slice_get}
use Rattle.block_index.specs.Places.{Grid}
use Rattle.ghost_pieces.specs.Pieces.{PieceState, FitsSize, HasRegion}

-- the piece has the size of its region
pub record Fits (grid : Grid) (n depth : ℕ) (p : PieceState) : Type 0 where
  pub size : FitsSize n depth 2 p
  pub region : HasRegion grid n depth p

-- each of these does
abbrev pub AllFit : Grid → ℕ → ℕ → List PieceState → Type 0
AllFit grid n depth pieces = (k : ℕ) (p : PieceState) → slice_get pieces k ≡ Some p → Fits grid n depth p

-- Pieces of one mesh, and blocks that may be advanced.
use Rattle.std.specs.Prelude.{◌≡◌, ℕ, ◌^◌, ◌<◌, ◌≤◌, List, Some, slice_get, slice_index}
use Rattle.leaf_set.specs.Tiling.{Tiling}
use Rattle.block_fields.specs.Blocks.{BlockState, amounts_of, ghosts_of}
use Rattle.advect.specs.OwnFluxes.{HoldsAtMost}
use Rattle.ghost_pieces.specs.Pieces.{PieceState, FitsSize, HasRegion, IsBetweenLeaves}

-- the piece lies between leaves of the set, and has the size of its region
pub record Fits (set : Tiling) (n depth fields : ℕ) (p : PieceState) : Type 0 where
  pub leaves : IsBetweenLeaves set.places p
  pub size : FitsSize n depth fields p
  pub region : HasRegion set.grid n depth p

-- each of these does
abbrev pub AllFit : Tiling → ℕ → ℕ → ℕ → List PieceState → Type 0
AllFit set n depth fields pieces = (k : ℕ) (p : PieceState) → slice_get pieces k ≡ Some p → Fits set n depth fields p

-- no amount and no ghost of a field is above the limit of amounts
pub record IsSmallField (b : BlockState) (f : ℕ) : Type 0 where
  pub amounts : (i : ℕ) → slice_index (amounts_of b f) i ≤ 2 ^ 42
  pub ghosts : (d i : ℕ) → d < 27 → slice_index (ghosts_of b f d) i ≤ 2 ^ 42

-- none of these blocks holds more than an advance allows
abbrev pub AllSmall : List BlockState → Type 0
AllSmall blocks = (k : ℕ) (b : BlockState) → slice_get blocks k ≡ Some b → HoldsAtMost (2 ^ 42) b

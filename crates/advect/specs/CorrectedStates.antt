-- Corrections seen from the state that a block is a part of.
use Rattle.std.specs.Prelude.{◌≡◌, ℕ, ◌%◌, ◌<◌, Bool, true, false, cond, sum_by}
use Rattle.block_index.specs.Places.{Cube}
use Rattle.block_fields.specs.Cells.{block_of}
use Rattle.block_fields.specs.States.{State}
use Rattle.grid_fluxes.specs.Axes.{first_children, next_cell}
use Rattle.grid_fluxes.specs.Fluxes.{Across, Fluxes}
use Rattle.grid_fluxes.specs.Replacing.{ReplacesAbove, ReplacesBelow, ReplacesNone}
use Rattle.advect.specs.FaceFluxes.{FaceFluxState, axis_of, is_end}
use Rattle.advect.specs.Flows.{goes_up_by}
use Rattle.advect.specs.FluxPieces.{FluxPieceState, is_behind, replaced_flux, replacing_sum}

-- the cell of the mesh is one of those behind the piece
abbrev pub lies_behind : ℕ → FluxPieceState → Cube → Bool
lies_behind n piece c = is_behind piece (c.x % n) (c.y % n) (c.z % n)

-- the face that it has on the piece's side, told by the cell that begins there
abbrev pub face_behind : State → FluxPieceState → Cube → Cube
face_behind s piece c = cond (is_end piece.side) (next_cell (axis_of piece.side) s.grid s.edge c) c

-- Of the faces of the block at a place, those behind a piece come to carry sums over finer faces, and no others. The
-- fluxes that are noted for them are a scheme's, and the piece holds the sums of that scheme's fluxes through the finer faces.
pub record ReplacesBehind (s : State) (fluxes : Fluxes) (place : Cube) (faces : FaceFluxState) (piece : FluxPieceState) (one other : Across) : Type 0 where
  pub way : goes_up_by faces.velocity (axis_of piece.side) ≡ fluxes.goes_up (axis_of piece.side)
  pub noted : (f : ℕ) (c : Cube) → f < s.fields → block_of s.edge c ≡ place → lies_behind s.edge piece c ≡ true →
      replaced_flux faces piece f (c.x % s.edge) (c.y % s.edge) (c.z % s.edge)
      ≡ fluxes.level_flux f (axis_of piece.side) (face_behind s piece c)
  pub sums : (f : ℕ) (c : Cube) → f < s.fields → block_of s.edge c ≡ place → lies_behind s.edge piece c ≡ true →
      replacing_sum piece f (c.x % s.edge) (c.y % s.edge) (c.z % s.edge)
      ≡ sum_by (fluxes.level_flux f (axis_of piece.side)) (first_children (axis_of piece.side) (face_behind s piece c))
  pub at_end : (c : Cube) → block_of s.edge c ≡ place → lies_behind s.edge piece c ≡ true → is_end piece.side ≡ true →
      ReplacesAbove one other (axis_of piece.side) c
  pub at_beginning : (c : Cube) → block_of s.edge c ≡ place → lies_behind s.edge piece c ≡ true → is_end piece.side ≡ false →
      ReplacesBelow one other (axis_of piece.side) c
  pub elsewhere : (c : Cube) → block_of s.edge c ≡ place → (lies_behind s.edge piece c ≡ true → ⊥) → ReplacesNone one other c

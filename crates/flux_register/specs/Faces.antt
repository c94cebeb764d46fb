-- Faces of leaves that have a coarser leaf across.
use Rattle.std.specs.Prelude.{◌≡◌, ℕ, zero, suc, ◌+◌, ◌*◌, ◌%◌, ◌≤◌, ◌==◌, cond, List, Some, Contains, length, slice_get, sum_by, ℤ, pos, negsuc}
use Rattle.block_index.specs.Places.{Cube, Grid, parent_of}
use Rattle.block_index.specs.Beyond.{Offset}
use Rattle.grid_fluxes.specs.Axes.{coordinate, next_cell, previous_cell}
use Rattle.advect.specs.FaceFluxes.{IsSide, axis_of, is_end}
use Rattle.advect.specs.Flows.{axis_number}

-- A side of a coarse leaf with a finer leaf on it: the positions of both among the leaves, the finer leaf's place, and
-- the side of the coarse leaf.
pub record FluxFace : Type 0 where
  pub to : ℕ
  pub from : ℕ
  pub place : Cube
  pub side : Offset

-- the opposite direction
abbrev pub opposite_step : ℤ → ℤ
opposite_step (pos zero) = pos 0
opposite_step (pos (suc n)) = negsuc n
opposite_step (negsuc n) = pos (suc n)

abbrev pub opposite : Offset → Offset
opposite d = record { x = opposite_step d.x; y = opposite_step d.y; z = opposite_step d.z }

-- the sides by number: two to an axis, the one at its beginning first
abbrev pub side_number : Offset → ℕ
side_number d = 2 * axis_number (axis_of d) + cond (is_end d) 1 0

-- the place beside a place on a side
abbrev pub place_beside : Grid → Offset → Cube → Cube
place_beside grid d c = cond (is_end d) (next_cell (axis_of d) grid 1 c) (previous_cell (axis_of d) grid 1 c)

-- The finer leaf is a child of the place beside the coarse one, in the half that lies against it.
pub record IsFluxFace (grid : Grid) (mesh : List Cube) (face : FluxFace) : Type 0 where
  pub side : IsSide face.side
  pub sends : slice_get mesh face.from ≡ Some face.place
  pub receiver : Cube
  pub receives : slice_get mesh face.to ≡ Some receiver
  pub finer : face.place.level ≡ receiver.level + 1
  pub beside : parent_of face.place ≡ place_beside grid face.side receiver
  pub near : coordinate (axis_of face.side) face.place % 2 ≡ cond (is_end face.side) 0 1

-- one for a face on this side
abbrev pub on_side : ℕ → FluxFace → ℕ
on_side n face = cond (side_number face.side == n) 1 0

-- these are all faces of the leaf at a position that have a coarser leaf across, each of them once
pub record AreOwedFaces (grid : Grid) (mesh : List Cube) (i : ℕ) (faces : List FluxFace) : Type 0 where
  pub each : (face : FluxFace) → Contains faces face → IsFluxFace grid mesh face
  pub own : (face : FluxFace) → Contains faces face → face.from ≡ i
  pub all : (face : FluxFace) → IsFluxFace grid mesh face → face.from ≡ i → Contains faces face
  pub once : (n : ℕ) → sum_by (on_side n) faces ≤ 1
  pub few : length faces ≤ 6

-- The cells with which a phase over the blocks of a mesh begins.
use Rattle.std.specs.Prelude.{◌≡◌, ℕ, false, List, [], Some, length, map, slice_get}
use Rattle.block_index.specs.Places.{Cube, Grid}
use Rattle.block_fields.specs.Blocks.{BlockState}
use Rattle.advect.specs.FaceFluxes.{FaceFluxState}
use Rattle.flux_register.specs.Faces.{AreOwedFaces}
use Rattle.flux_register.specs.Cells.{FluxState, blank}

-- the cell of leaf i: it owes a piece for each of its faces with a coarser leaf across, and these hold only 0
pub record IsFirstCell (grid : Grid) (mesh : List Cube) (i : ℕ) (c : FluxState) : Type 0 where
  pub started : c.started ≡ false
  pub owed : c.owed ≡ map (blank (record { grid = grid; edge = c.block.edge; fields = length c.block.amounts })) c.owes
  pub owes : AreOwedFaces grid mesh i c.owes

-- a cell without the pieces that it owes
abbrev pub bare : BlockState → FaceFluxState → FluxState
bare b q = record { block = b; faces = q; owes = []; owed = []; started = false }

-- one for each block and its fluxes
pub record AreFirstCells (grid : Grid) (mesh : List Cube) (blocks : List BlockState) (faces : List FaceFluxState) (cells : List FluxState) : Type 0 where
  pub made : map (λ c. c.block) cells ≡ blocks
  pub fluxes : map (λ c. c.faces) cells ≡ faces
  pub each : (i : ℕ) (c : FluxState) → slice_get cells i ≡ Some c → IsFirstCell grid mesh i c

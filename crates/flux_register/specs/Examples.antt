-- A provisional advance, a piece and a correction, computed from the definitions.
use Rattle.std.specs.Prelude.{◌≡◌, ℕ, true, false, List, [], ◌∷◌, replicate, slice_set, pos, negsuc}
use Rattle.std.proofs.Common.{refl}
use Rattle.block_index.specs.Beyond.{Offset}
use Rattle.block_fields.specs.Blocks.{BlockState}
use Rattle.advect.specs.FaceFluxes.{FaceFluxState, face_fluxes}
use Rattle.advect.specs.FluxPieces.{FluxPieceState, corrected, is_behind, reduced, sums_in}
use Rattle.advect.specs.Flows.{goes_up_by}
use Rattle.advect.specs.OwnFluxes.{provisional}
use Rattle.flux_register.specs.Faces.{FluxFace, opposite, place_beside}
use Rattle.flux_register.specs.Cells.{Setting, blank}
use Rattle.flux_register.specs.Made.{kept_flux}

-- ---- A coarse cell of 11 before finer cells with the fluxes 1, 0, 0 and 0. By its own flux it gives 2 and keeps 9; the
-- first of the finer cells takes 1. After the correction the coarse cell holds 10.

row : Setting
row = record { grid = record { trees_x = 2; trees_y = 1; trees_z = 1; wraps_x = false; wraps_y = false; wraps_z = false; finest = 1 }; edge = 4; fields = 1 }

nothing : List ℕ
nothing = replicate 16 0

fine_fluxes : FaceFluxState
fine_fluxes = face_fluxes 4 1 (pos 1 ∷ pos 0 ∷ pos 0 ∷ []) 4 ((1 ∷ replicate 15 0) ∷ nothing ∷ nothing ∷ []) (nothing ∷ nothing ∷ nothing ∷ [])

coarse_fluxes : FaceFluxState
coarse_fluxes = face_fluxes 4 1 (pos 1 ∷ pos 0 ∷ pos 0 ∷ []) 4 (nothing ∷ nothing ∷ nothing ∷ []) ((2 ∷ replicate 15 0) ∷ nothing ∷ nothing ∷ [])

to_the_right : Offset
to_the_right = record { x = pos 1; y = pos 0; z = pos 0 }

face : FluxFace
face = record { to = 0; from = 1; place = record { level = 1; x = 2; y = 0; z = 0 }; side = to_the_right }

piece : FluxPieceState
piece = reduced fine_fluxes (opposite face.side) (blank row face)

-- the coarse block before the advance, and the finer one, which holds nothing
coarse_block : BlockState
coarse_block = record { place = record { level = 0; x = 0; y = 0; z = 0 }; edge = 4; depth = 1; amounts = slice_set (replicate 64 0) 3 11 ∷ []; before = replicate 64 0 ∷ []; ghosts = [] }

finer_block : BlockState
finer_block = record { place = face.place; edge = 4; depth = 1; amounts = replicate 64 0 ∷ []; before = replicate 64 0 ∷ []; ghosts = [] }

by_its_own_flux : provisional (kept_flux coarse_block coarse_fluxes) (goes_up_by coarse_fluxes.velocity) coarse_block 0 3 0 0 ≡ 9
unfolding nothing coarse_fluxes coarse_block
by_its_own_flux = refl

first_finer_cell : provisional (kept_flux finer_block fine_fluxes) (goes_up_by fine_fluxes.velocity) finer_block 0 0 0 0 ≡ 1
unfolding nothing fine_fluxes to_the_right face finer_block
first_finer_cell = refl

beside : place_beside row.grid to_the_right (record { level = 0; x = 0; y = 0; z = 0 }) ≡ record { level = 0; x = 1; y = 0; z = 0 }
unfolding row to_the_right
beside = refl

sums : sums_in piece 0 ≡ 1 ∷ 0 ∷ 0 ∷ 0 ∷ []
unfolding row nothing fine_fluxes to_the_right face piece
sums = refl

behind : is_behind piece 3 1 1 ≡ true
unfolding row nothing fine_fluxes to_the_right face piece
behind = refl

other_quarter : is_behind piece 3 2 1 ≡ false
unfolding row nothing fine_fluxes to_the_right face piece
other_quarter = refl

coarse_cell : corrected coarse_fluxes piece 0 3 0 0 9 ≡ 10
unfolding row nothing fine_fluxes coarse_fluxes to_the_right face piece
coarse_cell = refl

-- ---- The other way: a coarse cell of 12 behind finer cells, with a flow down the axis, whose fluxes are 1, 1, 0 and 0.
-- By its own flux it gives 3 and keeps 9; the last of the finer cells takes 1. After the correction it holds 10.

finer_before : FaceFluxState
finer_before = face_fluxes 4 1 (negsuc 0 ∷ pos 0 ∷ pos 0 ∷ []) 4 (nothing ∷ nothing ∷ nothing ∷ []) ((1 ∷ 1 ∷ replicate 14 0) ∷ nothing ∷ nothing ∷ [])

coarse_after : FaceFluxState
coarse_after = face_fluxes 4 1 (negsuc 0 ∷ pos 0 ∷ pos 0 ∷ []) 4 ((3 ∷ replicate 15 0) ∷ nothing ∷ nothing ∷ []) (nothing ∷ nothing ∷ nothing ∷ [])

to_the_left : Offset
to_the_left = record { x = negsuc 0; y = pos 0; z = pos 0 }

face_below : FluxFace
face_below = record { to = 1; from = 0; place = record { level = 1; x = 1; y = 0; z = 0 }; side = to_the_left }

piece_below : FluxPieceState
piece_below = reduced finer_before (opposite face_below.side) (blank row face_below)

block_after : BlockState
block_after = record { place = record { level = 0; x = 1; y = 0; z = 0 }; edge = 4; depth = 1; amounts = slice_set (replicate 64 0) 0 12 ∷ []; before = replicate 64 0 ∷ []; ghosts = [] }

block_before : BlockState
block_before = record { place = face_below.place; edge = 4; depth = 1; amounts = replicate 64 0 ∷ []; before = replicate 64 0 ∷ []; ghosts = [] }

down_by_its_own_flux : provisional (kept_flux block_after coarse_after) (goes_up_by coarse_after.velocity) block_after 0 0 0 0 ≡ 9
unfolding nothing coarse_after block_after
down_by_its_own_flux = refl

last_finer_cell : provisional (kept_flux block_before finer_before) (goes_up_by finer_before.velocity) block_before 0 3 0 0 ≡ 1
unfolding nothing finer_before to_the_left face_below block_before
last_finer_cell = refl

beside_below : place_beside row.grid to_the_left (record { level = 0; x = 1; y = 0; z = 0 }) ≡ record { level = 0; x = 0; y = 0; z = 0 }
unfolding row to_the_left
beside_below = refl

behind_below : is_behind piece_below 0 1 1 ≡ true
unfolding row nothing finer_before to_the_left face_below piece_below
behind_below = refl

coarse_cell_after : corrected coarse_after piece_below 0 0 0 0 9 ≡ 10
unfolding row nothing finer_before coarse_after to_the_left face_below piece_below
coarse_cell_after = refl

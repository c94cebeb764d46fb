-- Small blocks advanced, summed up and corrected, computed from the definitions.
use Rattle.std.specs.Prelude.{◌≡◌, ℕ, Bool, true, false, List, [], ◌∷◌, map, replicate, slice_set, pos, negsuc}
use Rattle.std.proofs.Common.{refl}
use Rattle.cello_num.specs.Fluxes.{flux}
use Rattle.cello_num.specs.Parts.{part}
use Rattle.block_index.specs.Places.{Cube, Grid}
use Rattle.block_index.specs.Beyond.{Offset}
use Rattle.block_fields.specs.Blocks.{BlockState, zero_block}
use Rattle.grid_fluxes.specs.Axes.{Axis, along_x, along_y, along_z}
use Rattle.grid_fluxes.specs.Upwind.{Flow}
use Rattle.advect.specs.FaceFluxes.{FaceFluxState, face_fluxes}
use Rattle.advect.specs.FluxPieces.{FluxPieceState, corrected, flux_piece, is_behind, sums_of_four}
use Rattle.advect.specs.OwnFluxes.{own_flux, provisional}

place : ℕ → ℕ → ℕ → ℕ → Cube
place level x y z = record { level = level; x = x; y = y; z = z }

-- two trees beside each other, one level of finer leaves
grid : Grid
grid = record { trees_x = 2; trees_y = 1; trees_z = 1; wraps_x = false; wraps_y = false; wraps_z = false; finest = 1 }

speed_along_x : Axis → ℕ
speed_along_x along_x = 1
speed_along_x along_y = 0
speed_along_x along_z = 0

-- along the first axis, a root cell in four or in two cycles
flow : Bool → ℕ → Flow
flow up den = record { speed = speed_along_x; goes_up = λ a. up; closed = λ a. true; den = den }

-- a block of 4 * 4 * 4 cells, one field, of which one cell has an amount
with_one : Cube → ℕ → ℕ → BlockState
with_one at cell amount = record (zero_block at 4 1 1) { amounts = slice_set (replicate 64 0) cell amount ∷ [] }

-- ---- A coarse cell of 11 before finer cells of 2, 1, 1 and 1. By its own flux it gives 2.

coarse : BlockState
coarse = with_one (place 0 0 0 0) 3 11

own_amount : flux 11 1 4 0 ≡ 2
own_amount = refl

gives_own : own_flux (flow true 4) grid coarse 0 along_x 4 0 0 ≡ 2
unfolding flow grid coarse with_one place speed_along_x
gives_own = refl

provisional_amount : provisional (own_flux (flow true 4) grid coarse) (λ a. true) coarse 0 3 0 0 ≡ 9
unfolding flow grid coarse with_one place speed_along_x
provisional_amount = refl

-- the parts at the face, and what passes the finer faces
finer_parts : map (part 11) (1 ∷ 3 ∷ 5 ∷ 7 ∷ []) ≡ 2 ∷ 1 ∷ 1 ∷ 1 ∷ []
finer_parts = refl

finer_fluxes : map (λ k. flux (part 11 k) 1 4 1) (1 ∷ 3 ∷ 5 ∷ 7 ∷ []) ≡ 1 ∷ 0 ∷ 0 ∷ 0 ∷ []
finer_fluxes = refl

-- of 16 finer faces those at the corner carry 1, 0, 0 and 0: their sum is 1
finer_faces : List ℕ
finer_faces = slice_set (replicate 16 0) 0 1

sums : sums_of_four 4 finer_faces ≡ 1 ∷ 0 ∷ 0 ∷ 0 ∷ []
unfolding finer_faces
sums = refl

none : List ℕ
none = replicate 16 0

right_side : Offset
right_side = record { x = pos 1; y = pos 0; z = pos 0 }

left_side : Offset
left_side = record { x = negsuc 0; y = pos 0; z = pos 0 }

-- the fluxes of the coarse block, with 2 through the first face of its end along x
faces : FaceFluxState
faces = face_fluxes 4 1 (pos 1 ∷ pos 0 ∷ pos 0 ∷ []) 4 (none ∷ none ∷ none ∷ []) (slice_set none 0 2 ∷ none ∷ none ∷ [])

piece : FluxPieceState
piece = flux_piece 0 1 (place 1 2 0 0) right_side 4 ((1 ∷ 0 ∷ 0 ∷ 0 ∷ []) ∷ [])

lies_behind_it : is_behind piece 3 0 0 ≡ true
unfolding piece right_side place
lies_behind_it = refl

-- it loses 1 and not 2
corrected_amount : corrected faces piece 0 3 0 0 9 ≡ 10
unfolding faces piece none right_side place
corrected_amount = refl

-- ---- The same downwards: the flux of 2 that the coarse cell took is replaced by 1.

down : FaceFluxState
down = face_fluxes 4 1 (negsuc 0 ∷ pos 0 ∷ pos 0 ∷ []) 4 (none ∷ none ∷ none ∷ []) (slice_set none 0 2 ∷ none ∷ none ∷ [])

corrected_down : corrected down piece 0 3 0 0 9 ≡ 8
unfolding down piece none right_side place
corrected_down = refl

-- at its beginning a block gives downwards
left_faces : FaceFluxState
left_faces = face_fluxes 4 1 (negsuc 0 ∷ pos 0 ∷ pos 0 ∷ []) 4 (slice_set none 0 2 ∷ none ∷ none ∷ []) (none ∷ none ∷ none ∷ [])

left_piece : FluxPieceState
left_piece = flux_piece 0 1 (place 1 1 0 0) left_side 4 ((1 ∷ 0 ∷ 0 ∷ 0 ∷ []) ∷ [])

corrected_left : corrected left_faces left_piece 0 0 0 0 9 ≡ 10
unfolding left_faces left_piece none left_side place
corrected_left = refl

-- ---- With 1 of 2 a cell of level 1 gives all that it has, up or down.

finer : BlockState
finer = with_one (place 1 0 0 0) 1 7

gives_all : own_flux (flow true 2) grid finer 0 along_x 2 0 0 ≡ 7
unfolding flow grid finer with_one place speed_along_x
gives_all = refl

gives_all_down : own_flux (flow false 2) grid finer 0 along_x 1 0 0 ≡ 7
unfolding flow grid finer with_one place speed_along_x
gives_all_down = refl

keeps_none : provisional (own_flux (flow true 2) grid finer) (λ a. true) finer 0 1 0 0 ≡ 0
unfolding flow grid finer with_one place speed_along_x
keeps_none = refl

-- and the next cell becomes what flows into it
becomes_inflow : provisional (own_flux (flow true 2) grid finer) (λ a. true) finer 0 2 0 0 ≡ 7
unfolding flow grid finer with_one place speed_along_x
becomes_inflow = refl

becomes_inflow_down : provisional (own_flux (flow false 2) grid finer) (λ a. false) finer 0 0 0 0 ≡ 7
unfolding flow grid finer with_one place speed_along_x
becomes_inflow_down = refl

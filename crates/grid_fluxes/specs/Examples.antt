-- Small states advanced by the upwind flux, computed from the definitions.
use Rattle.std.specs.Prelude.{◌≡◌, ℕ, Bool, true, false, cond, List, [], ◌∷◌, map, slice_index, slice_index_or}
use Rattle.std.proofs.Common.{refl}
use Rattle.block_index.specs.Places.{Cube, Grid}
use Rattle.block_fields.specs.Cells.{is_same}
use Rattle.block_fields.specs.InitialStates.{initial}
use Rattle.block_fields.specs.Samples.{adapted}
use Rattle.block_fields.specs.States.{State, field_of, held, total}
use Rattle.grid_fluxes.specs.Axes.{Axis, along_x, along_y, along_z}
use Rattle.grid_fluxes.specs.BoundaryFlows.{out}
use Rattle.grid_fluxes.specs.Fluxes.{Fluxes, advanced, finer_across, given, none_across}
use Rattle.grid_fluxes.specs.Upwind.{Flow, upwind}

cell : ℕ → ℕ → ℕ → ℕ → Cube
cell level x y z = record { level = level; x = x; y = y; z = z }

row_of_trees : ℕ → Bool → ℕ → Grid
row_of_trees trees wraps finest = record {
  trees_x = trees;
  trees_y = 1;
  trees_z = 1;
  wraps_x = wraps;
  wraps_y = wraps;
  wraps_z = wraps;
  finest = finest;
}

-- one field that has an amount in one root cell
with_one : Grid → Cube → ℕ → State
with_one grid at amount = initial grid 4 1 (λ f c. cond (is_same c at) amount 0)

-- up the first axis, with this denominator
speed_along_x : Axis → ℕ
speed_along_x along_x = 1
speed_along_x along_y = 0
speed_along_x along_z = 0

but_x : Axis → Bool
but_x along_x = false
but_x along_y = true
but_x along_z = true

open_flow : ℕ → Flow
open_flow den = record { speed = speed_along_x; goes_up = λ a. true; closed = but_x; den = den }

closed_flow : ℕ → Flow
closed_flow den = record { speed = speed_along_x; goes_up = λ a. true; closed = λ a. true; den = den }

first_amounts : State → Fluxes → List ℕ
first_amounts s fluxes = map (slice_index (slice_index_or (field_of (advanced s fluxes) 0) 0 [])) (0 ∷ 1 ∷ 2 ∷ 3 ∷ [])

-- ---- A coarse cell of 11 before finer cells of 2, 1, 1 and 1. By its own flux it would give 2. The finer fluxes
-- are 1, 0, 0 and 0, so it gives 1 and keeps 10, and the first finer cell is left with 1.

coarse_and_finer : State
coarse_and_finer = adapted (with_one (row_of_trees 2 false 1) (cell 0 3 0 0) 11) (0 ∷ 1 ∷ [])

slow : Fluxes
slow = upwind coarse_and_finer (closed_flow 4)

own_flux : slow.level_flux 0 along_x (cell 0 4 0 0) ≡ 2
unfolding slow coarse_and_finer with_one row_of_trees cell closed_flow speed_along_x
own_flux = refl

finer_fluxes : map (slow.level_flux 0 along_x) (cell 1 8 0 0 ∷ cell 1 8 1 0 ∷ cell 1 8 0 1 ∷ cell 1 8 1 1 ∷ []) ≡ 1 ∷ 0 ∷ 0 ∷ 0 ∷ []
unfolding slow coarse_and_finer with_one row_of_trees cell closed_flow speed_along_x
finer_fluxes = refl

provisional_loss : given coarse_and_finer none_across slow 0 (cell 0 3 0 0) ≡ 2
unfolding slow coarse_and_finer with_one row_of_trees cell closed_flow speed_along_x
provisional_loss = refl

corrected_loss : given coarse_and_finer (finer_across coarse_and_finer) slow 0 (cell 0 3 0 0) ≡ 1
unfolding slow coarse_and_finer with_one row_of_trees cell closed_flow speed_along_x
corrected_loss = refl

coarse_cell : held (advanced coarse_and_finer slow) 0 (cell 0 3 0 0) ≡ 10
unfolding slow coarse_and_finer with_one row_of_trees cell closed_flow speed_along_x
coarse_cell = refl

first_finer_cell : held (advanced coarse_and_finer slow) 0 (cell 1 8 0 0) ≡ 1
unfolding slow coarse_and_finer with_one row_of_trees cell closed_flow speed_along_x
first_finer_cell = refl

total_stays : total (advanced coarse_and_finer slow) 0 ≡ 11
unfolding slow coarse_and_finer with_one row_of_trees cell closed_flow speed_along_x
total_stays = refl

nothing_out : out coarse_and_finer slow 0 ≡ 0
unfolding slow coarse_and_finer with_one row_of_trees cell closed_flow speed_along_x
nothing_out = refl

-- ---- One unit in the last cell of a row, moved by one cell: it leaves through an open face, stays before a closed
-- one, and comes in at the other end of a periodic axis.

unit : Bool → State
unit wraps = with_one (row_of_trees 1 wraps 0) (cell 0 3 0 0) 1

leaves : total (advanced (unit false) (upwind (unit false) (open_flow 1))) 0 ≡ 0
unfolding unit with_one row_of_trees cell open_flow speed_along_x but_x
leaves = refl

has_left : out (unit false) (upwind (unit false) (open_flow 1)) 0 ≡ 1
unfolding unit with_one row_of_trees cell open_flow speed_along_x but_x
has_left = refl

stays : first_amounts (unit false) (upwind (unit false) (closed_flow 1)) ≡ 0 ∷ 0 ∷ 0 ∷ 1 ∷ []
unfolding first_amounts unit with_one row_of_trees cell closed_flow speed_along_x
stays = refl

none_has_left : out (unit false) (upwind (unit false) (closed_flow 1)) 0 ≡ 0
unfolding unit with_one row_of_trees cell closed_flow speed_along_x
none_has_left = refl

comes_round : first_amounts (unit true) (upwind (unit true) (open_flow 1)) ≡ 1 ∷ 0 ∷ 0 ∷ 0 ∷ []
unfolding first_amounts unit with_one row_of_trees cell open_flow speed_along_x but_x
comes_round = refl

total_after_round : total (advanced (unit true) (upwind (unit true) (open_flow 1))) 0 ≡ 1
unfolding unit with_one row_of_trees cell open_flow speed_along_x but_x
total_after_round = refl

none_leaves_a_ring : out (unit true) (upwind (unit true) (open_flow 1)) 0 ≡ 0
unfolding unit with_one row_of_trees cell open_flow speed_along_x but_x
none_leaves_a_ring = refl

-- ---- With 1 of 2 the cells of level 1 give all that they have. The cell of 1 beside one of 2 takes these 2.

split : State
split = adapted (with_one (row_of_trees 1 true 1) (cell 0 0 0 0) 11) (1 ∷ [])

fast : Fluxes
fast = upwind split (open_flow 2)

before_advance : held split 0 (cell 1 1 1 0) ≡ 1
unfolding split with_one row_of_trees cell
before_advance = refl

gives_all : given split (finer_across split) fast 0 (cell 1 1 1 0) ≡ 1
unfolding fast split with_one row_of_trees cell open_flow speed_along_x but_x
gives_all = refl

becomes_inflow : held (advanced split fast) 0 (cell 1 1 1 0) ≡ 2
unfolding fast split with_one row_of_trees cell open_flow speed_along_x but_x
becomes_inflow = refl

-- ---- The same downwards. With 1 of 3 the four finer cells of 2 give 1 each to the coarse cell below them, whose own
-- flux would be a third of 15. The unit in the first cell leaves through an open face alone.

open_flow_down : ℕ → Flow
open_flow_down den = record { speed = speed_along_x; goes_up = λ a. false; closed = but_x; den = den }

closed_flow_down : ℕ → Flow
closed_flow_down den = record { speed = speed_along_x; goes_up = λ a. false; closed = λ a. true; den = den }

finer_and_coarse : State
finer_and_coarse = adapted (with_one (row_of_trees 2 false 1) (cell 0 4 0 0) 15) (0 ∷ 1 ∷ [])

own_flux_down : (upwind finer_and_coarse (closed_flow_down 3)).level_flux 0 along_x (cell 0 4 0 0) ≡ 5
unfolding finer_and_coarse with_one row_of_trees cell closed_flow_down speed_along_x
own_flux_down = refl

coarse_cell_takes : held (advanced finer_and_coarse (upwind finer_and_coarse (closed_flow_down 3))) 0 (cell 0 3 0 0) ≡ 4
unfolding finer_and_coarse with_one row_of_trees cell closed_flow_down speed_along_x
coarse_cell_takes = refl

first_unit : State
first_unit = with_one (row_of_trees 1 false 0) (cell 0 0 0 0) 1

leaves_below : out first_unit (upwind first_unit (open_flow_down 1)) 0 ≡ 1
unfolding first_unit with_one row_of_trees cell open_flow_down speed_along_x but_x
leaves_below = refl

stays_below : first_amounts first_unit (upwind first_unit (closed_flow_down 1)) ≡ 1 ∷ 0 ∷ 0 ∷ 0 ∷ []
unfolding first_amounts first_unit with_one row_of_trees cell closed_flow_down speed_along_x
stays_below = refl

-- How the cells of a block lie along each axis: in runs of layers.
use Rattle.std.specs.Prelude.{ℕ, ◌*◌}
use Rattle.grid_fluxes.specs.Axes.{Axis, along_x, along_y, along_z}
use Rattle.advect.specs.Coordinates.{face_number}
use Rattle.advect.specs.declared.line.Line.{Line}
use Rattle.advect.specs.declared.line.Line.TheVariants.{X, Y, Z}

abbrev pub axis_named : Line → Axis
axis_named X = along_x
axis_named Y = along_y
axis_named Z = along_z

-- how many cells lie side by side in a layer, and how many runs there are
abbrev pub wide_along : ℕ → Axis → ℕ
wide_along n along_x = 1
wide_along n along_y = n
wide_along n along_z = n * n

abbrev pub runs_along : ℕ → Axis → ℕ
runs_along n along_x = n * n
runs_along n along_y = n
runs_along n along_z = 1

-- the run in which the cells with two coordinates across lie, and their position in its layers
abbrev pub run_at : ℕ → Axis → ℕ → ℕ → ℕ
run_at n along_x i j = face_number n i j
run_at n along_y i j = j
run_at n along_z i j = 0

abbrev pub position_at : ℕ → Axis → ℕ → ℕ → ℕ
position_at n along_x i j = 0
position_at n along_y i j = i
position_at n along_z i j = face_number n i j

-- the directions of the ghosts before and past the block
abbrev pub low_direction : Axis → ℕ
low_direction along_x = 12
low_direction along_y = 10
low_direction along_z = 4

abbrev pub high_direction : Axis → ℕ
high_direction along_x = 14
high_direction along_y = 16
high_direction along_z = 22

-- The cells of a block by their coordinate along an axis and those across it. Of the two axes across, the first is the
-- one that comes earlier of x, y and z.
use Rattle.std.specs.Prelude.{ℕ, ◌+◌, ◌*◌}
use Rattle.block_fields.specs.Blocks.{number_at}
use Rattle.grid_fluxes.specs.Axes.{Axis, along_x, along_y, along_z}

abbrev pub along : Axis → ℕ → ℕ → ℕ → ℕ
along along_x x y z = x
along along_y x y z = y
along along_z x y z = z

abbrev pub across_first : Axis → ℕ → ℕ → ℕ → ℕ
across_first along_x x y z = y
across_first along_y x y z = x
across_first along_z x y z = x

abbrev pub across_second : Axis → ℕ → ℕ → ℕ → ℕ
across_second along_x x y z = z
across_second along_y x y z = z
across_second along_z x y z = y

-- the number of a cell in its block
abbrev pub number_along : ℕ → Axis → ℕ → ℕ → ℕ → ℕ
number_along n along_x u i j = number_at n u i j
number_along n along_y u i j = number_at n i u j
number_along n along_z u i j = number_at n i j u

-- the number of a face among those of one side of a block, by the coordinates across
abbrev pub face_number : ℕ → ℕ → ℕ → ℕ
face_number n i j = j * n + i

-- Cells along an axis: the next cell, the one before it, and the face between them.
use Rattle.std.specs.Prelude.{ℕ, ◌+◌, ◌-◌, ◌*◌, ◌^◌, ◌==◌, Bool, cond, nat_le, List, [], ◌∷◌, ℤ, pos, ◌+ℤ◌}
use Rattle.block_index.specs.Places.{Cube, Grid, child_of}
use Rattle.block_fields.specs.Samples.{cell_near}

pub data Axis : Type 0 where
  along_x : Axis
  along_y : Axis
  along_z : Axis

abbrev pub coordinate : Axis → Cube → ℕ
coordinate along_x c = c.x
coordinate along_y c = c.y
coordinate along_z c = c.z

-- the cell with another coordinate along an axis
abbrev pub with_coordinate : Axis → Cube → ℕ → Cube
with_coordinate along_x c u = record c { x = u }
with_coordinate along_y c u = record c { y = u }
with_coordinate along_z c u = record c { z = u }

abbrev pub trees_along : Axis → Grid → ℕ
trees_along along_x grid = grid.trees_x
trees_along along_y grid = grid.trees_y
trees_along along_z grid = grid.trees_z

abbrev pub wraps_along : Axis → Grid → Bool
wraps_along along_x grid = grid.wraps_x
wraps_along along_y grid = grid.wraps_y
wraps_along along_z grid = grid.wraps_z

-- how many cells of a level stand along an axis, n to a block
abbrev pub cells_along : Axis → Grid → ℕ → ℕ → ℕ
cells_along a grid n level = trees_along a grid * 2 ^ level * n

-- The next coordinate and the previous one along an axis of m cells. On an axis that doesn't wrap both ends lead to m,
-- which stands for outside.
abbrev pub next_coordinate : Bool → ℕ → ℕ → ℕ
next_coordinate wraps m u = cond (u + 1 == m) (cond wraps 0 m) (u + 1)

abbrev pub previous_coordinate : Bool → ℕ → ℕ → ℕ
previous_coordinate wraps m u = cond (u == 0) (cond wraps (m - 1) m) (u - 1)

-- the next cell along an axis, and the previous one
abbrev pub next_cell : Axis → Grid → ℕ → Cube → Cube
next_cell a grid n c =
    with_coordinate a c (next_coordinate (wraps_along a grid) (cells_along a grid n c.level) (coordinate a c))

abbrev pub previous_cell : Axis → Grid → ℕ → Cube → Cube
previous_cell a grid n c =
    with_coordinate a c (previous_coordinate (wraps_along a grid) (cells_along a grid n c.level) (coordinate a c))

-- along this axis the cell lies outside the domain
abbrev pub is_outside : Axis → Grid → ℕ → Cube → Bool
is_outside a grid n c = nat_le (cells_along a grid n c.level) (coordinate a c)

-- the four children of a cell that begin where it begins along an axis
abbrev pub first_children : Axis → Cube → List Cube
first_children along_x c = child_of c 0 ∷ child_of c 2 ∷ child_of c 4 ∷ child_of c 6 ∷ []
first_children along_y c = child_of c 0 ∷ child_of c 1 ∷ child_of c 4 ∷ child_of c 5 ∷ []
first_children along_z c = child_of c 0 ∷ child_of c 1 ∷ child_of c 2 ∷ child_of c 3 ∷ []

-- the cell that a step along an axis from a cell is moved to, as samples are asked for
abbrev pub cell_stepped : Axis → Grid → ℕ → Cube → ℤ → Cube
cell_stepped along_x grid n c s = cell_near grid n c.level (pos c.x +ℤ s) (pos c.y) (pos c.z)
cell_stepped along_y grid n c s = cell_near grid n c.level (pos c.x) (pos c.y +ℤ s) (pos c.z)
cell_stepped along_z grid n c s = cell_near grid n c.level (pos c.x) (pos c.y) (pos c.z +ℤ s)

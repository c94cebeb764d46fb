-- Cells as plain data. A cell is written as a place is: a level, and along each axis a coordinate in units of the
-- cells of that level. So a cell has a parent and eight children as places have. A block of edge n holds n cells
-- along each axis.
use Rattle.std.specs.Prelude.{ℕ, ◌+◌, ◌*◌, ◌/◌, ◌%◌, Bool, ◌&&◌, ◌==◌, List, map}
use Rattle.std.specs.List.{range_with_len, flat_map, list_any}
use Rattle.block_index.specs.Places.{Cube}

-- the place of the block that holds a cell
abbrev pub block_of : ℕ → Cube → Cube
block_of n c = record { level = c.level; x = c.x / n; y = c.y / n; z = c.z / n }

-- the number of a cell in its block: x fastest, then y, then z
abbrev pub cell_number : ℕ → Cube → ℕ
cell_number n c = (c.z % n * n + c.y % n) * n + c.x % n

-- the cell of a block with a number
abbrev pub cell_at : ℕ → Cube → ℕ → Cube
cell_at n b i = record { level = b.level; x = b.x * n + i % n; y = b.y * n + i / n % n; z = b.z * n + i / n / n }

-- the cells of a block in order
abbrev pub cells_of : ℕ → Cube → List Cube
cells_of n b = map (cell_at n b) (range_with_len 0 (n * n * n))

-- the cells of a mesh in order, leaf by leaf
abbrev pub cells : ℕ → List Cube → List Cube
cells n leaves = flat_map (cells_of n) leaves

-- whether two places, or cells, are one
abbrev pub is_same : Cube → Cube → Bool
is_same a c = (a.level == c.level) && (a.x == c.x) && (a.y == c.y) && (a.z == c.z)

-- whether a leaf holds the cell, at the cell's own level
abbrev pub has_cell : ℕ → List Cube → Cube → Bool
has_cell n leaves c = list_any (λ b. is_same b (block_of n c)) leaves

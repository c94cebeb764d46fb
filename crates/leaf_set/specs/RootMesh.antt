-- The coarsest mesh of a domain: its trees, x fastest, then y, then z.
use Rattle.std.specs.Prelude.{ℕ, ◌*◌, ◌/◌, ◌%◌, List, map}
use Rattle.std.specs.List.{range_with_len}
use Rattle.block_index.specs.Places.{Cube, Grid}

-- how many trees the domain has
abbrev pub tree_count : Grid → ℕ
tree_count grid = grid.trees_x * grid.trees_y * grid.trees_z

-- the root with the number n
abbrev pub root_at : Grid → ℕ → Cube
root_at grid n = record { level = 0; x = n % grid.trees_x; y = n / grid.trees_x % grid.trees_y; z = n / grid.trees_x / grid.trees_y }

abbrev pub root_mesh : Grid → List Cube
root_mesh grid = map (root_at grid) (range_with_len 0 (tree_count grid))

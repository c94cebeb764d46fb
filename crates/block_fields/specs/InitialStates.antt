-- The state that a simulation begins with, and sums over the cells of its mesh.
use Rattle.std.specs.Prelude.{ℕ, ◌*◌}
use Rattle.cello_num.specs.Sums.{sum_below}
use Rattle.block_index.specs.Places.{Cube, Grid}
use Rattle.leaf_set.specs.RootMesh.{root_mesh}
use Rattle.block_fields.specs.States.{State, filled}

-- the roots, with the amounts that a function of field and cell gives
abbrev pub initial : Grid → ℕ → ℕ → (ℕ → Cube → ℕ) → State
initial grid edge fields given = filled grid edge fields (root_mesh grid) given

-- the sum over the coordinates of all root cells
abbrev pub sum_over_roots : Grid → ℕ → (ℕ → ℕ → ℕ → ℕ) → ℕ
sum_over_roots grid n w =
    sum_below (grid.trees_z * n) (λ z. sum_below (grid.trees_y * n) (λ y. sum_below (grid.trees_x * n) (λ x. w x y z)))

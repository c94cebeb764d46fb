-- Samples: what a state holds at a cell of a level, whichever level its leaves have there; and the state after an
-- adapt phase, whose cells hold the samples of the one before.
use Rattle.std.specs.Prelude.{ℕ, ◌-◌, ◌*◌, ◌%◌, ◌^◌, min, Bool, true, false, ◌&&◌, cond, nat_lt, List, sum_by, ℤ, pos, negsuc}
use Rattle.block_index.specs.Places.{Cube, Grid, parent_of, child_number}
use Rattle.leaf_set.specs.NextMesh.{children_of, next_mesh}
use Rattle.block_fields.specs.Cells.{has_cell}
use Rattle.cello_num.specs.Parts.{part}
use Rattle.block_fields.specs.States.{State, held, filled}

-- a leaf one level coarser holds the cell's parent
abbrev pub has_coarser : ℕ → List Cube → Cube → Bool
has_coarser n leaves c = nat_lt 0 c.level && has_cell n leaves (parent_of c)

-- The sample at a cell inside the domain: its amount; or else its part of the coarser cell's amount; or else the sum
-- of the eight finer cells.
abbrev pub sample : State → ℕ → Cube → ℕ
sample s f c =
    cond (has_cell s.edge s.leaves c) (held s f c)
    (cond (has_coarser s.edge s.leaves c) (part (held s f (parent_of c)) (child_number c)) (sum_by (held s f) (children_of c)))

-- a coordinate moved into an axis of n cells: by full lengths of the axis where it wraps, else to the nearest cell
abbrev pub moved : Bool → ℕ → ℤ → ℕ
moved true n (pos x) = x % n
moved true n (negsuc x) = n - 1 - x % n
moved false n (pos x) = min x (n - 1)
moved false n (negsuc x) = 0

-- the cell of a level that three coordinates are moved to
abbrev pub cell_near : Grid → ℕ → ℕ → ℤ → ℤ → ℤ → Cube
cell_near grid n level x y z = record {
  level = level;
  x = moved grid.wraps_x (grid.trees_x * 2 ^ level * n) x;
  y = moved grid.wraps_y (grid.trees_y * 2 ^ level * n) y;
  z = moved grid.wraps_z (grid.trees_z * 2 ^ level * n) z;
}

-- the sample of a level at any three coordinates
abbrev pub sample_at : State → ℕ → ℕ → ℤ → ℤ → ℤ → ℕ
sample_at s f level x y z = sample s f (cell_near s.grid s.edge level x y z)

-- the state after an adapt phase that decides on these levels
abbrev pub adapted : State → List ℕ → State
adapted s levels = filled s.grid s.edge s.fields (next_mesh s.leaves levels) (sample s)

-- The shell of ghost cells around a block of edge n, d cells deep, and the leaf that holds a ghost cell's sample. Along
-- an axis a local coordinate of the block with its shell runs from 0 to n + 2 d - 1: the first d lie before the block,
-- the last d past it.
use Rattle.std.specs.Prelude.{◌≡◌, ℕ, ◌+◌, ◌*◌, ◌<◌, ◌≤◌, ◌⊎◌, cond, nat_lt, ℤ, pos, negsuc, ◌-ℤ◌}
use Rattle.block_index.specs.Beyond.{Offset}
use Rattle.block_index.specs.Places.{Cube, Grid, child_of, parent_of}
use Rattle.block_fields.specs.Cells.{block_of}
use Rattle.block_fields.specs.Samples.{cell_near}

-- local coordinates in a block with its shell
pub record Local : Type 0 where
  pub x : ℕ
  pub y : ℕ
  pub z : ℕ

-- a local coordinate as it is counted from the block's first cell
abbrev pub counted : ℕ → ℕ → ℤ
counted d g = pos g -ℤ pos d

-- the step along an axis, from the block, to where a local coordinate lies
abbrev pub step_of : ℕ → ℕ → ℕ → ℤ
step_of n d g = cond (nat_lt g d) (negsuc 0) (cond (nat_lt g (n + d)) (pos 0) (pos 1))

abbrev pub steps_of : ℕ → ℕ → Local → Offset
steps_of n d g = record { x = step_of n d g.x; y = step_of n d g.y; z = step_of n d g.z }

-- g lies in the shell
pub record IsGhost (n d : ℕ) (g : Local) : Type 0 where
  pub x : g.x < n + 2 * d
  pub y : g.y < n + 2 * d
  pub z : g.z < n + 2 * d
  pub outside : d ≤ g.x → g.x < n + d → d ≤ g.y → g.y < n + d → d ≤ g.z → g.z < n + d → ⊥

-- the cell of the block's level that local coordinates are moved to
abbrev pub ghost_cell : Grid → ℕ → ℕ → Cube → Local → Cube
ghost_cell grid n d b g =
    cell_near grid n b.level (pos (b.x * n + g.x) -ℤ pos d) (pos (b.y * n + g.y) -ℤ pos d) (pos (b.z * n + g.z) -ℤ pos d)

-- The block s holds the sample of the cell v: it holds the cell itself, or its parent, or its eight children.
abbrev pub IsSource : ℕ → Cube → Cube → Type 0
IsSource n s v =
    (s ≡ block_of n v)
    ⊎ (((0 < v.level) × (s ≡ parent_of (block_of n v)))
    ⊎ ((k : ℕ) → k < 8 → s ≡ block_of n (child_of v k)))

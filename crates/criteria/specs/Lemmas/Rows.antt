-- The rows along x in a block and around it. A row is named by two coordinates that are counted from one before the
-- block's first cell, so that none is negative.
use Rattle.std.specs.Prelude.{◌≡◌, ℕ, ◌+◌, ◌*◌, ◌/◌, ◌%◌, ◌<◌, ◌==◌, cond, max, min, List, length, slice_index, pos}
use Rattle.block_fields.specs.Blocks.{BlockState, amounts_of, ghosts_of, seen_at}
use Rattle.block_fields.specs.Shells.{position_of, side_length, side_of}
use Rattle.criteria.specs.Cells.{greatest_near, least_near}
use Rattle.criteria.specs.Samples.{before}

-- the side of a row: that of its first coordinate and thrice that of its second
abbrev pub row_side : ℕ → ℕ → ℕ → ℕ
row_side n y z = side_of n (before y) + 3 * side_of n (before z)

-- the number of a row among those of its side
abbrev pub row_number : ℕ → ℕ → ℕ → ℕ → ℕ
row_number n depth y z = position_of n depth (before z) * side_length n depth (side_of n (before y)) + position_of n depth (before y)

-- the cells of a direction, the block's own among them, and how many there are
abbrev pub cells_toward : BlockState → ℕ → ℕ → List ℕ
cells_toward b f d = cond (d == 13) (amounts_of b f) (ghosts_of b f d)

abbrev pub box_size : ℕ → ℕ → ℕ → ℕ
box_size n depth d = side_length n depth (d % 3) * side_length n depth (d / 3 % 3) * side_length n depth (d / 9)

-- a list holds the cells of a direction
pub record HoldsCells (b : BlockState) (f d : ℕ) (cells : List ℕ) : Type 0 where
  pub toward : cells ≡ cells_toward b f d
  pub size : length cells ≡ box_size b.edge b.depth d

-- a list holds a row from the cell before the block's first to the one past its last
abbrev pub HoldsRow : BlockState → ℕ → ℕ → ℕ → List ℕ → Type 0
HoldsRow b f y z row = (x : ℕ) → x < b.edge + 2 → slice_index row x ≡ seen_at b f (before x) (before y) (before z)

-- a list holds the block's own columns of a row
pub record HoldsMiddle (b : BlockState) (f y z : ℕ) (row : List ℕ) : Type 0 where
  pub cells : length row ≡ b.edge
  pub seen : (x : ℕ) → x < b.edge → slice_index row x ≡ seen_at b f (pos x) (before y) (before z)

-- the greatest and the least of three numbers from one on
abbrev pub greatest_three : (ℕ → ℕ) → ℕ → ℕ
greatest_three q x = max (q x) (max (q (x + 1)) (q (x + 2)))

abbrev pub least_three : (ℕ → ℕ) → ℕ → ℕ
least_three q x = min (q x) (min (q (x + 1)) (q (x + 2)))

-- two lists hold the greatest and the least along z of the three rows at and next to a coordinate
pub record HoldsColumn (b : BlockState) (f y z : ℕ) (most fewest : List ℕ) : Type 0 where
  pub greatest : (x : ℕ) → x < b.edge + 2 → slice_index most x ≡ greatest_near (λ w. seen_at b f (before x) (before y) w) z
  pub least : (x : ℕ) → x < b.edge + 2 → slice_index fewest x ≡ least_near (λ w. seen_at b f (before x) (before y) w) z

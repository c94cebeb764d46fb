-- How jumps are found: from a leaf, the finer of a pair, by the eight places of its level around the corner that it
-- shares with its parent. A coarser leaf that touches it covers one of them. Along each axis these are its own place
-- and the one beyond that corner, which on a periodic axis may lie at its other end, and on another axis be missing.
use Rattle.std.specs.Prelude.{◌≡◌, ℕ, zero, suc, ◌+◌, ◌/◌, ◌%◌, ◌<◌, ◌≤◌, ◌⊎◌, true, List, Some, slice_get, ℤ, pos, negsuc}
use Rattle.block_index.specs.Places.{Cube, Grid, covers}
use Rattle.block_index.specs.Beyond.{Offset, IsBeyond}
use Rattle.block_index.specs.Touching.{Touches}

-- the step out of a half of the parent, 0 for the lower and 1 for the upper: to the side where the parent ends too
abbrev pub outward : ℕ → ℤ
outward zero = negsuc 0
outward (suc n) = pos 1

-- the step from the place at x along an axis: none for 0, the one out of the parent for 1
abbrev pub corner_step : ℕ → ℕ → ℤ
corner_step x zero = pos 0
corner_step x (suc k) = outward (x % 2)

-- the offset from a to the place numbered s around the corner that a shares with its parent: x fastest, then y, then z
abbrev pub corner_offset : Cube → ℕ → Offset
corner_offset a s = record {
  x = corner_step a.x (s % 2);
  y = corner_step a.y (s / 2 % 2);
  z = corner_step a.z (s / 4);
}

-- u is that place
abbrev pub IsAroundCorner : Grid → Cube → ℕ → Cube → Type 0
IsAroundCorner grid a s u = IsBeyond grid a (corner_offset a s) u

-- the leaf c at j covers u from more than one level up
pub record IsFarOver (mesh : List Cube) (u : Cube) (j : ℕ) (c : Cube) : Type 0 where
  pub leaf : slice_get mesh j ≡ Some c
  pub covers : covers c u ≡ true
  pub far : c.level + 1 < u.level

-- the leaf at j touches the leaf at i from more than one level up
pub record IsFarAbove (grid : Grid) (mesh : List Cube) (i j : ℕ) : Type 0 where
  pub finer : Cube
  pub coarser : Cube
  pub is_finer : slice_get mesh i ≡ Some finer
  pub is_coarser : slice_get mesh j ≡ Some coarser
  pub touch : Touches grid finer coarser
  pub far : coarser.level + 1 < finer.level

-- the pair of a and b is the pair of c and d, or stands before it, by the first number and then the second
abbrev pub IsUpTo : ℕ → ℕ → ℕ → ℕ → Type 0
IsUpTo a b c d = (a < c) ⊎ ((a ≡ c) × (b ≤ d))

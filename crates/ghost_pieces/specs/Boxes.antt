-- The ghost cells of a block in one direction whose samples one leaf holds, as a box of local coordinates, found from
-- both places by arithmetic.
use Rattle.std.specs.Prelude.{ℕ, zero, suc, ◌+◌, ◌-◌, ◌*◌, ◌/◌, ◌%◌, ◌^◌, ◌<◌, ◌≤◌, min, Bool, true, cond, ◌&&◌, nat_lt, ◌==◌, ℤ, pos, negsuc, ◌-ℤ◌}
use Rattle.block_index.specs.Beyond.{Offset}
use Rattle.block_index.specs.Places.{Cube, Grid}
use Rattle.block_fields.specs.Samples.{moved}
use Rattle.ghost_pieces.specs.Ghosts.{Local}

-- a stretch of local coordinates along an axis
pub record Stretch : Type 0 where
  pub first : ℕ
  pub count : ℕ

pub record IsWithin (p : Stretch) (g : ℕ) : Type 0 where
  pub from : p.first ≤ g
  pub below : g < p.first + p.count

-- the local coordinates to which a step along an axis leads
abbrev pub stretch_of : ℕ → ℕ → ℤ → Stretch
stretch_of n d (pos zero) = record { first = d; count = n }
stretch_of n d (pos (suc k)) = record { first = n + d; count = d }
stretch_of n d (negsuc k) = record { first = 0; count = d }

-- How many cells of level l lie along a block of level m: n, 2 n or n / 2, for levels at most one apart.
abbrev pub span : ℕ → ℕ → ℕ → ℕ
span n l m = n / 2 * 2 ^ (l + 1 - m)

-- Of the stretch of a step from the block a what lies in the block b of an axis that is cut into blocks of c cells, or
-- beside it: for no step the cells that both have, else the whole stretch.
abbrev pub part_of : ℕ → ℕ → ℕ → ℕ → ℕ → ℤ → Stretch
part_of n d a c b (pos zero) = record { first = d + (b * c - a * n); count = min n (b * c + c - a * n) - (b * c - a * n) }
part_of n d a c b (pos (suc k)) = record { first = n + d; count = d }
part_of n d a c b (negsuc k) = record { first = 0; count = d }

-- The stretch of a step from the block a, on an axis of t blocks, is moved into the block b of an axis that is cut into
-- blocks of c cells. Its first coordinate tells: no stretch beside a block is moved into two.
abbrev pub reaches : ℕ → ℕ → ℕ → Bool → ℕ → ℕ → ℕ → ℤ → Bool
reaches n d t w a c b (pos zero) = true
reaches n d t w a c b (pos (suc k)) = moved w (t * n) (pos (a * n + (n + d)) -ℤ pos d) / c == b
reaches n d t w a c b (negsuc k) = moved w (t * n) (pos (a * n + 0) -ℤ pos d) / c == b

-- the part of a stretch that is moved into a block
abbrev pub reached_part : ℕ → ℕ → ℕ → Bool → ℕ → ℕ → ℕ → ℤ → Stretch
reached_part n d t w a c b s = record {
  first = (part_of n d a c b s).first;
  count = cond (reaches n d t w a c b s) (part_of n d a c b s).count 0;
}

-- ---- along all three axes

-- a box of local coordinates
pub record Box : Type 0 where
  pub x : Stretch
  pub y : Stretch
  pub z : Stretch

pub record IsInBox (p : Box) (g : Local) : Type 0 where
  pub x : IsWithin p.x g.x
  pub y : IsWithin p.y g.y
  pub z : IsWithin p.z g.z

-- some cell lies in it
abbrev pub has_cells : Box → Bool
has_cells p = nat_lt 0 p.x.count && nat_lt 0 p.y.count && nat_lt 0 p.z.count

-- how many cells lie in it
abbrev pub box_size : Box → ℕ
box_size p = p.z.count * p.y.count * p.x.count

-- the cells of a box in order: x fastest, then y, then z
abbrev pub cell_in : Box → ℕ → Local
cell_in p i = record { x = p.x.first + i % p.x.count; y = p.y.first + i / p.x.count % p.y.count; z = p.z.first + i / p.x.count / p.y.count }

-- The box of the region of b in a direction whose samples the leaf s holds, where there is one. Both places tell it.
abbrev pub region_box : ℕ → ℕ → Cube → Offset → Cube → Box
region_box n d b dir s = record {
  x = part_of n d b.x (span n b.level s.level) s.x dir.x;
  y = part_of n d b.y (span n b.level s.level) s.y dir.y;
  z = part_of n d b.z (span n b.level s.level) s.z dir.z;
}

-- the box of what is moved into the leaf s, which has no cells where there is no region
abbrev pub reached_box : Grid → ℕ → ℕ → Cube → Offset → Cube → Box
reached_box grid n d b dir s = record {
  x = reached_part n d (grid.trees_x * 2 ^ b.level) grid.wraps_x b.x (span n b.level s.level) s.x dir.x;
  y = reached_part n d (grid.trees_y * 2 ^ b.level) grid.wraps_y b.y (span n b.level s.level) s.y dir.y;
  z = reached_part n d (grid.trees_z * 2 ^ b.level) grid.wraps_z b.z (span n b.level s.level) s.z dir.z;
}

-- whether there is a region of b in a direction whose samples the leaf s holds
abbrev pub has_region : Grid → ℕ → ℕ → Cube → Offset → Cube → Bool
has_region grid n d b dir s = has_cells (reached_box grid n d b dir s)

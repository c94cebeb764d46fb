-- Places of an array of octrees as plain data: cubes of a level, and the grid that they lie in.
use Rattle.std.specs.Prelude.{ℕ, ◌+◌, ◌-◌, ◌*◌, ◌/◌, ◌%◌, ◌^◌, ◌<◌, ◌≤◌, Bool, false, ◌&&◌, ◌==◌, nat_le, List, slice_index, slice_index_or}

-- A place: a level, and along each axis a coordinate in units of the places of that level.
pub record Cube : Type 0 where
  pub level : ℕ
  pub x : ℕ
  pub y : ℕ
  pub z : ℕ

-- A domain: along each axis the number of trees and whether the axis is periodic; and the finest level.
pub record Grid : Type 0 where
  pub trees_x : ℕ
  pub trees_y : ℕ
  pub trees_z : ℕ
  pub wraps_x : Bool
  pub wraps_y : Bool
  pub wraps_z : Bool
  pub finest : ℕ

-- the grid of three numbers of trees, three periodic axes or not, and a finest level
abbrev pub grid_of : List ℕ → List Bool → ℕ → Grid
grid_of trees wraps finest = record {
  trees_x = slice_index trees 0;
  trees_y = slice_index trees 1;
  trees_z = slice_index trees 2;
  wraps_x = slice_index_or wraps 0 false;
  wraps_y = slice_index_or wraps 1 false;
  wraps_z = slice_index_or wraps 2 false;
  finest = finest;
}

-- the deepest level of a place, where 0 is a root
abbrev pub deepest : ℕ
deepest = 6

-- the most trees along an axis
abbrev pub most_trees : ℕ
most_trees = 16

-- the limits of every place: how deep, and how far along each axis
pub record IsPlace (c : Cube) : Type 0 where
  pub level : c.level ≤ deepest
  pub x : c.x < most_trees * 2 ^ c.level
  pub y : c.y < most_trees * 2 ^ c.level
  pub z : c.z < most_trees * 2 ^ c.level

-- the limits of every domain
pub record IsDomain (grid : Grid) : Type 0 where
  pub some_x : 1 ≤ grid.trees_x
  pub some_y : 1 ≤ grid.trees_y
  pub some_z : 1 ≤ grid.trees_z
  pub most_x : grid.trees_x ≤ most_trees
  pub most_y : grid.trees_y ≤ most_trees
  pub most_z : grid.trees_z ≤ most_trees
  pub finest : grid.finest ≤ deepest

-- the place lies inside the domain
pub record IsInside (grid : Grid) (c : Cube) : Type 0 where
  pub level : c.level ≤ grid.finest
  pub x : c.x < grid.trees_x * 2 ^ c.level
  pub y : c.y < grid.trees_y * 2 ^ c.level
  pub z : c.z < grid.trees_z * 2 ^ c.level

-- child k: bit 0 of k is the half along x, bit 1 along y, bit 2 along z
abbrev pub child_of : Cube → ℕ → Cube
child_of c k = record { level = c.level + 1; x = 2 * c.x + k % 2; y = 2 * c.y + k / 2 % 2; z = 2 * c.z + k / 4 }

-- the place one level up that contains this one (at level 0, of no meaning)
abbrev pub parent_of : Cube → Cube
parent_of c = record { level = c.level - 1; x = c.x / 2; y = c.y / 2; z = c.z / 2 }

-- which child of its parent a place is
abbrev pub child_number : Cube → ℕ
child_number c = c.x % 2 + 2 * (c.y % 2) + 4 * (c.z % 2)

-- a covers c: it is c or contains it
abbrev pub covers : Cube → Cube → Bool
covers a c =
    nat_le a.level c.level
    && (c.x / 2 ^ (c.level - a.level) == a.x)
    && (c.y / 2 ^ (c.level - a.level) == a.y)
    && (c.z / 2 ^ (c.level - a.level) == a.z)

-- the one word of a place
abbrev pub packed : Cube → ℕ
packed c = c.level * 2 ^ 48 + c.z * 2 ^ 32 + c.y * 2 ^ 16 + c.x

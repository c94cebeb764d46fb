-- The least level that the rules about one leaf alone allow it.
use Rattle.std.specs.Prelude.{ℕ, ◌+◌, ◌-◌, ◌<◌, ◌≤◌, min, List}
use Rattle.block_index.specs.Places.{Cube, Grid, child_of, parent_of}
use Rattle.block_index.specs.declared.wish.Wish.{Wish}
use Rattle.leaf_set.specs.Meshes.{IsLeaf}
use Rattle.leaf_set.specs.LevelRules.{wished_level}

-- no root, and one of its sibling places is no leaf
abbrev pub IsLone : List Cube → Cube → Type 0
IsLone mesh a = (1 ≤ a.level) × ((k : ℕ) × (k < 8) × (IsLeaf mesh (child_of (parent_of a) k) → ⊥))

-- the level keeps the range, meets the wish, holds the leaf if it lacks a sibling, and is the least that does so
pub record OpensAt (grid : Grid) (mesh : List Cube) (a : Cube) (w : Wish) (level : ℕ) : Type 0 where
  pub low : a.level - 1 ≤ level
  pub high : level ≤ min (a.level + 1) grid.finest
  pub wish : min (wished_level w a.level) grid.finest ≤ level
  pub lone : IsLone mesh a → a.level ≤ level
  pub least : (other : ℕ) → min (wished_level w a.level) grid.finest ≤ other → (IsLone mesh a → a.level ≤ other) → level ≤ other

-- The level with which a leaf opens a phase: the least that the rules about the leaf alone allow.
use Rattle.std.specs.Prelude.{◌≡◌, ℕ, ◌≤◌, List, length, slice_index}
use Rattle.block_index.specs.Places.{Cube, Grid}
use Rattle.block_index.specs.declared.wish.Wish.{Wish}
use Rattle.leaf_set.specs.LevelRules.{KeepsRange, MeetsWish, KeepsLone}

-- levels that keep the range, meet the wishes, and hold each leaf that lacks a sibling
pub record KeepsOwnRules (grid : Grid) (mesh : List Cube) (wishes : List Wish) (levels : List ℕ) : Type 0 where
  pub range : KeepsRange grid mesh levels
  pub wish : MeetsWish grid mesh wishes levels
  pub lone : KeepsLone mesh levels

-- the least of these
pub record IsOpening (grid : Grid) (mesh : List Cube) (wishes : List Wish) (levels : List ℕ) : Type 0 where
  pub one_each : length levels ≡ length mesh
  pub own : KeepsOwnRules grid mesh wishes levels
  pub least : (others : List ℕ) → KeepsOwnRules grid mesh wishes others → (i : ℕ) → slice_index levels i ≤ slice_index others i

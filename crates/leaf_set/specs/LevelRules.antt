-- The five rules that level decisions meet, and the least decisions that meet them. Levels and wishes are lists
-- in the order of the leaves.
use Rattle.std.specs.Prelude.{◌≡◌, ℕ, ◌+◌, ◌-◌, ◌<◌, ◌≤◌, min, List, Some, length, slice_get, slice_index}
use Rattle.block_index.specs.Places.{Cube, Grid, child_of, parent_of}
use Rattle.block_index.specs.Touching.{Touches}
use Rattle.block_index.specs.declared.wish.Wish.{Wish}
use Rattle.block_index.specs.declared.wish.Wish.TheVariants.{Coarsen, Stay, Refine}
use Rattle.leaf_set.specs.Meshes.{IsLeaf}

-- the level that a wish asks of a leaf of level l, before the range is looked at
abbrev pub wished_level : Wish → ℕ → ℕ
wished_level Coarsen l = l - 1
wished_level Stay l = l
wished_level Refine l = l + 1

-- a and c are two of the eight children of one place, or one of them twice
pub record AreSiblings (a c : Cube) : Type 0 where
  pub above_root : 1 ≤ a.level
  pub same_level : c.level ≡ a.level
  pub same_parent : parent_of c ≡ parent_of a

-- a level changes by at most one, and is at most the finest
abbrev pub KeepsRange : Grid → List Cube → List ℕ → Type 0
KeepsRange grid mesh levels =
    (i : ℕ) (a : Cube) → slice_get mesh i ≡ Some a →
    (a.level - 1 ≤ slice_index levels i) × (slice_index levels i ≤ min (a.level + 1) grid.finest)

-- a level is at least the wished one, as far as the range allows
abbrev pub MeetsWish : Grid → List Cube → List Wish → List ℕ → Type 0
MeetsWish grid mesh wishes levels =
    (i : ℕ) (a : Cube) (w : Wish) → slice_get mesh i ≡ Some a → slice_get wishes i ≡ Some w →
    min (wished_level w a.level) grid.finest ≤ slice_index levels i

-- touching leaves end at most one level apart
abbrev pub KeepsJump : Grid → List Cube → List ℕ → Type 0
KeepsJump grid mesh levels =
    (i j : ℕ) (a c : Cube) → slice_get mesh i ≡ Some a → slice_get mesh j ≡ Some c → Touches grid a c →
    slice_index levels j - 1 ≤ slice_index levels i

-- a leaf one of whose sibling places is no leaf doesn't coarsen
abbrev pub KeepsLone : List Cube → List ℕ → Type 0
KeepsLone mesh levels =
    (i k : ℕ) (a : Cube) → slice_get mesh i ≡ Some a → 1 ≤ a.level → k < 8 →
    (IsLeaf mesh (child_of (parent_of a) k) → ⊥) → a.level ≤ slice_index levels i

-- a leaf doesn't coarsen beside a sibling that doesn't
abbrev pub KeepsSiblings : List Cube → List ℕ → Type 0
KeepsSiblings mesh levels =
    (i j : ℕ) (a c : Cube) → slice_get mesh i ≡ Some a → slice_get mesh j ≡ Some c → AreSiblings a c →
    min (slice_index levels j) a.level ≤ slice_index levels i

-- levels that meet the five rules
pub record IsSolution (grid : Grid) (mesh : List Cube) (wishes : List Wish) (levels : List ℕ) : Type 0 where
  pub one_each : length levels ≡ length mesh
  pub range : KeepsRange grid mesh levels
  pub wish : MeetsWish grid mesh wishes levels
  pub jump : KeepsJump grid mesh levels
  pub lone : KeepsLone mesh levels
  pub siblings : KeepsSiblings mesh levels

-- the solution at or below every solution
pub record IsLeast (grid : Grid) (mesh : List Cube) (wishes : List Wish) (levels : List ℕ) : Type 0 where
  pub solves : IsSolution grid mesh wishes levels
  pub least : (others : List ℕ) → IsSolution grid mesh wishes others → (i : ℕ) → slice_index levels i ≤ slice_index others i

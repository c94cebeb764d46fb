-- Meshes: lists of leaves in order that cover each finest place once, and balance.
use Rattle.std.specs.Prelude.{◌≡◌, ℕ, ◌+◌, ◌*◌, ◌^◌, ◌≤◌, List, Some, slice_get, count_by}
use Rattle.block_index.specs.Places.{Cube, Grid, IsInside, covers, most_trees}
use Rattle.block_index.specs.Order.{IsBefore, deepest_in_tree}
use Rattle.block_index.specs.Touching.{Touches}

-- c is a leaf of the mesh
abbrev pub IsLeaf : List Cube → Cube → Type 0
IsLeaf mesh c = (i : ℕ) × (slice_get mesh i ≡ Some c)

-- how many of the places cover c
abbrev pub cover_count : List Cube → Cube → ℕ
cover_count mesh c = count_by (λ a. covers a c) mesh

-- A mesh of a domain: places inside it, each before the next, that cover each finest place exactly once.
pub record IsMesh (grid : Grid) (mesh : List Cube) : Type 0 where
  pub inside : (i : ℕ) (c : Cube) → slice_get mesh i ≡ Some c → IsInside grid c
  pub ordered : (i : ℕ) (a c : Cube) → slice_get mesh i ≡ Some a → slice_get mesh (i + 1) ≡ Some c → IsBefore a c
  pub covered : (c : Cube) → IsInside grid c → c.level ≡ grid.finest → cover_count mesh c ≡ 1

-- the most leaves of a mesh: all places of the deepest level in a domain of the most trees
abbrev pub most_leaves : ℕ
most_leaves = most_trees ^ 3 * deepest_in_tree

-- touching leaves differ by at most one level
abbrev pub IsBalanced : Grid → List Cube → Type 0
IsBalanced grid mesh =
    (i j : ℕ) (a c : Cube) → slice_get mesh i ≡ Some a → slice_get mesh j ≡ Some c → Touches grid a c → a.level ≤ c.level + 1

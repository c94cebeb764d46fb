-- The leaves that touch a leaf, by their positions in the mesh, and how leaves cover a place beside a leaf.
use Rattle.std.specs.Prelude.{◌≡◌, ℕ, ◌+◌, ◌*◌, ◌<◌, ◌≤◌, ◌⊎◌, List, Some, length, slice_get, Contains}
use Rattle.std.specs.List.Sorted.{IsStrictlyIncreasing}
use Rattle.block_index.specs.Places.{Cube, Grid, child_of, parent_of}
use Rattle.block_index.specs.Touching.{Touches}
use Rattle.leaf_set.specs.Meshes.{IsLeaf}

-- The most leaves that touch a leaf of a balanced mesh: four at each of its 6 faces, two at each of its 12 edges and
-- one at each of its 8 corners.
abbrev pub most_touching : ℕ
most_touching = 6 * 4 + 12 * 2 + 8

-- `js` are the positions of all leaves that touch the leaf at `b`, ascending.
pub record AreTouching (grid : Grid) (mesh : List Cube) (b : ℕ) (js : List ℕ) : Type 0 where
  pub ascending : IsStrictlyIncreasing js
  pub touch : (j : ℕ) (a : Cube) → Contains js j → slice_get mesh b ≡ Some a →
      (c : Cube) × (slice_get mesh j ≡ Some c) × Touches grid a c
  pub all : (j : ℕ) (a c : Cube) → slice_get mesh b ≡ Some a → slice_get mesh j ≡ Some c → Touches grid a c → Contains js j
  pub few : length js ≤ most_touching

-- A place q beside the leaf b is a leaf, or its parent is, or it is split and each of its children that touches b is.
abbrev pub IsCoveredBeside : Grid → List Cube → Cube → Cube → Type 0
IsCoveredBeside grid mesh q b =
    IsLeaf mesh q
    ⊎ (((0 < q.level) × IsLeaf mesh (parent_of q))
    ⊎ ((q.level + 1 ≤ grid.finest) × ((k : ℕ) → k < 8 → Touches grid (child_of q k) b → IsLeaf mesh (child_of q k))))

-- What holds of the leaves of every mesh.
use Rattle.std.specs.Prelude.{◌≡◌, ℕ, ◌<◌, ◌≤◌, ◌⊎◌, true, List, Some, slice_get}
use Rattle.block_index.specs.Places.{Cube, Grid, IsInside, covers}
use Rattle.block_index.specs.Order.{rank, IsBefore}
use Rattle.leaf_set.specs.Meshes.{IsLeaf}

-- no place is a leaf twice
abbrev pub HasDistinctLeaves : List Cube → Type 0
HasDistinctLeaves mesh = (i j : ℕ) (c : Cube) → slice_get mesh i ≡ Some c → slice_get mesh j ≡ Some c → i ≡ j

-- each leaf stands before every later one
abbrev pub HasLeavesInOrder : List Cube → Type 0
HasLeavesInOrder mesh = (i j : ℕ) (a c : Cube) → i < j → slice_get mesh i ≡ Some a → slice_get mesh j ≡ Some c → IsBefore a c

-- no leaf covers another
abbrev pub HasLeavesApart : List Cube → Type 0
HasLeavesApart mesh =
    (i j : ℕ) (a c : Cube) → slice_get mesh i ≡ Some a → slice_get mesh j ≡ Some c → covers a c ≡ true → i ≡ j

-- each finest place of the domain is covered by one leaf and no other
abbrev pub HasOneLeafOver : Grid → List Cube → Type 0
HasOneLeafOver grid mesh =
    (q : Cube) → IsInside grid q → q.level ≡ grid.finest →
    (i : ℕ) × (a : Cube) × (slice_get mesh i ≡ Some a) × (covers a q ≡ true)
    × ((j : ℕ) (c : Cube) → slice_get mesh j ≡ Some c → covers c q ≡ true → j ≡ i)

-- each place of the domain is covered by a leaf, or covers a finer one
abbrev pub HasLeafNear : Grid → List Cube → Type 0
HasLeafNear grid mesh =
    (q : Cube) → IsInside grid q →
    (i : ℕ) × (a : Cube) × (slice_get mesh i ≡ Some a)
    × ((covers a q ≡ true) ⊎ ((q.level < a.level) × (covers q a ≡ true)))

-- Of the leaves, the one that covers a place is the last that doesn't stand after it.
abbrev pub HasLastLeafOver : Grid → List Cube → Type 0
HasLastLeafOver grid mesh =
    (q : Cube) (i : ℕ) (a : Cube) → IsInside grid q → slice_get mesh i ≡ Some a → covers a q ≡ true →
    (rank a ≤ rank q) × ((j : ℕ) (c : Cube) → i < j → slice_get mesh j ≡ Some c → IsBefore q c)

-- whether a place is a leaf
abbrev pub IsLeafOrNot : List Cube → Cube → Type 0
IsLeafOrNot mesh c = IsLeaf mesh c ⊎ (IsLeaf mesh c → ⊥)

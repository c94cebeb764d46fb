-- Where a leaf of the next mesh comes from.
use Rattle.std.specs.Prelude.{◌≡◌, ℕ, ◌+◌, ◌<◌, List, Some, slice_get, slice_index}
use Rattle.block_index.specs.Places.{Cube, child_of}

-- A leaf of the next mesh is a child of a leaf whose level rises by one, or a leaf whose level stays, or the parent
-- of eight leaves whose levels all fall to its own.
pub data Origin (mesh : List Cube) (levels : List ℕ) (p : Cube) : Type 0 where
  split : (i k : ℕ) (a : Cube) → slice_get mesh i ≡ Some a → slice_index levels i ≡ a.level + 1 → k < 8 → p ≡ child_of a k → Origin mesh levels p
  kept : (i : ℕ) → slice_get mesh i ≡ Some p → slice_index levels i ≡ p.level → Origin mesh levels p
  joined : ((k : ℕ) → k < 8 → (i : ℕ) × (slice_get mesh i ≡ Some (child_of p k)) × (slice_index levels i ≡ p.level)) → Origin mesh levels p

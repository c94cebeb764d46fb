-- Leaves that touch, by their positions.
use Rattle.std.specs.Prelude.{◌≡◌, ℕ, List, Some, slice_get}
use Rattle.block_index.specs.Places.{Cube, Grid}
use Rattle.block_index.specs.Touching.{Touches}

-- the leaves at i and j touch
abbrev pub TouchAt : Grid → List Cube → ℕ → ℕ → Type 0
TouchAt grid mesh i j =
    (a : Cube) → slice_get mesh i ≡ Some a → (c : Cube) × (slice_get mesh j ≡ Some c) × Touches grid a c

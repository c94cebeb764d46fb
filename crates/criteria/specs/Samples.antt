-- What stands at a place and around it: for a field and three coordinates, which are counted from the first cell of the
-- place, a sample. A block gives them by its own amounts and its ghosts, a state by the samples of the place's level.
use Rattle.std.specs.Prelude.{ℕ, ◌*◌, ◌^◌, ◌<◌, ◌≤◌, length, ℤ, zero, suc, pos, negsuc, ◌+ℤ◌}
use Rattle.block_index.specs.Places.{Cube}
use Rattle.block_fields.specs.Blocks.{BlockState, seen_at}
use Rattle.block_fields.specs.Samples.{sample_at}
use Rattle.block_fields.specs.Shells.{IsAround}
use Rattle.block_fields.specs.States.{State}

-- one field
abbrev pub FieldSamples : Type 0
FieldSamples = ℤ → ℤ → ℤ → ℕ

-- each field by its number
abbrev pub Samples : Type 0
Samples = ℕ → FieldSamples

-- the samples of a state at a place and around it
abbrev pub samples_beside : State → Cube → Samples
samples_beside s c f x y z =
    sample_at s f c.level (pos (c.x * s.edge) +ℤ x) (pos (c.y * s.edge) +ℤ y) (pos (c.z * s.edge) +ℤ z)

-- the coordinate before one
abbrev pub before : ℕ → ℤ
before zero = negsuc 0
before (suc x) = pos x

-- the most that a sample may be
abbrev pub most_amount : ℕ
most_amount = 2 ^ 42

-- What a block holds in its cells and in those next to them is no more than this.
abbrev pub IsSmall : BlockState → Type 0
IsSmall b =
    (f : ℕ) (x y z : ℤ) → f < length b.amounts → IsAround b.edge 1 x → IsAround b.edge 1 y → IsAround b.edge 1 z →
    seen_at b f x y z ≤ most_amount

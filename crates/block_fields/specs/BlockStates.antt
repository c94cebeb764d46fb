-- The blocks of a mesh as its state, and ghosts as the samples of a state.
use Rattle.std.specs.Prelude.{◌≡◌, ℕ, ◌*◌, ◌<◌, List, Some, length, map, slice_get, ℤ, pos, ◌+ℤ◌}
use Rattle.block_index.specs.Places.{Cube, Grid}
use Rattle.block_fields.specs.Blocks.{BlockState, IsBlock, seen_at}
use Rattle.block_fields.specs.Samples.{sample_at}
use Rattle.block_fields.specs.Shells.{IsAround, direction_of}
use Rattle.block_fields.specs.States.{State}

-- the state that blocks hold in their amounts, and in the second copies of these
abbrev pub state_of : Grid → ℕ → ℕ → List BlockState → State
state_of grid edge fields blocks = record {
  grid = grid;
  edge = edge;
  fields = fields;
  leaves = map (λ b. b.place) blocks;
  amounts = map (λ b. b.amounts) blocks;
}

abbrev pub state_before : Grid → ℕ → ℕ → List BlockState → State
state_before grid edge fields blocks = record {
  grid = grid;
  edge = edge;
  fields = fields;
  leaves = map (λ b. b.place) blocks;
  amounts = map (λ b. b.before) blocks;
}

-- a block of this size
pub record IsBlockOf (n fields depth : ℕ) (b : BlockState) : Type 0 where
  pub limits : IsBlock b
  pub same_edge : b.edge ≡ n
  pub same_fields : length b.amounts ≡ fields
  pub same_depth : b.depth ≡ depth

-- the blocks of these leaves in order, all of one size
pub record AreBlocksOf (leaves : List Cube) (n fields depth : ℕ) (blocks : List BlockState) : Type 0 where
  pub places : map (λ b. b.place) blocks ≡ leaves
  pub each : (i : ℕ) (b : BlockState) → slice_get blocks i ≡ Some b → IsBlockOf n fields depth b

-- the block is leaf i of a state
pub record IsLeafOf (s : State) (i : ℕ) (b : BlockState) : Type 0 where
  pub same_edge : b.edge ≡ s.edge
  pub leaf : slice_get s.leaves i ≡ Some b.place
  pub held : slice_get s.amounts i ≡ Some b.amounts

-- the sample of a block's level at coordinates counted from its first cell
abbrev pub sample_around : State → BlockState → ℕ → ℤ → ℤ → ℤ → ℕ
sample_around s b f x y z =
    sample_at s f b.place.level (pos (b.place.x * b.edge) +ℤ x) (pos (b.place.y * b.edge) +ℤ y) (pos (b.place.z * b.edge) +ℤ z)

-- the ghosts of a block hold the samples of a state
abbrev pub HoldsSamples : State → BlockState → Type 0
HoldsSamples s b =
    (f : ℕ) (x y z : ℤ) → f < s.fields → IsAround b.edge b.depth x → IsAround b.edge b.depth y → IsAround b.edge b.depth z →
    (direction_of b.edge x y z ≡ 13 → ⊥) → seen_at b f x y z ≡ sample_around s b f x y z

-- How blocks have to fit where one is made of others.
use Rattle.std.specs.Prelude.{◌≡◌, ℕ, ◌^◌, ◌≤◌, List, Some, length, slice_get, sum}
use Rattle.block_index.specs.Places.{child_of}
use Rattle.block_fields.specs.Blocks.{BlockState, amounts_of}

-- b is child k of the block p, of the same size
pub record IsChildOf (p : BlockState) (k : ℕ) (b : BlockState) : Type 0 where
  pub place : b.place ≡ child_of p.place k
  pub edge : b.edge ≡ p.edge
  pub fields : length b.amounts ≡ length p.amounts

-- the blocks are the eight children of the block p, in order
pub record AreChildrenOf (p : BlockState) (blocks : List BlockState) : Type 0 where
  pub eight : length blocks ≡ 8
  pub each : (k : ℕ) (b : BlockState) → slice_get blocks k ≡ Some b → IsChildOf p k b

-- how much a field of a block may add up to
abbrev pub most_in_field : ℕ
most_in_field = 2 ^ 42

-- each field of these blocks adds up to at most that
abbrev pub FieldsFit : List BlockState → Type 0
FieldsFit blocks =
    (i f : ℕ) (b : BlockState) → slice_get blocks i ≡ Some b → sum (amounts_of b f) ≤ most_in_field

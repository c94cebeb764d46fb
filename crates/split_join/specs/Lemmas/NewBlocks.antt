-- The blocks that a phase makes anew.
use Rattle.std.specs.Prelude.{◌≡◌, ℕ, List, Some, length, map, slice_get}
use Rattle.std.specs.List.{range_with_len}
use Rattle.block_index.specs.Places.{Cube, child_of}
use Rattle.block_fields.specs.Blocks.{BlockState, zero_block}
use Rattle.block_fields.specs.BlockStates.{IsBlockOf}
use Rattle.block_fields.specs.Divisions.{join_amounts, split_amounts}

-- child k of a block, and all eight
abbrev pub child_block : BlockState → ℕ → BlockState
child_block b k =
    record (zero_block (child_of b.place k) b.edge (length b.amounts) b.depth) { amounts = split_amounts b.edge (child_of b.place k) b.amounts }

abbrev pub children_blocks : BlockState → List BlockState
children_blocks b = map (child_block b) (range_with_len 0 8)

-- the parent of blocks
abbrev pub joined_block : ℕ → ℕ → ℕ → Cube → List BlockState → BlockState
joined_block n fields depth at blocks =
    record (zero_block at n fields depth) { amounts = join_amounts n fields at (map (λ b. b.amounts) blocks) }

-- the eight children of a place in order, all of one size
pub record IsFamily (at : Cube) (n fields depth : ℕ) (family : List BlockState) : Type 0 where
  pub eight : length family ≡ 8
  pub places : (k : ℕ) (b : BlockState) → slice_get family k ≡ Some b → b.place ≡ child_of at k
  pub sizes : (k : ℕ) (b : BlockState) → slice_get family k ≡ Some b → IsBlockOf n fields depth b

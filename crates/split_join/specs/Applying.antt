-- What `apply` asks of the old blocks and the new mesh, and what new blocks hold besides their amounts.
use Rattle.std.specs.Prelude.{◌≡◌, ℕ, ◌<◌, ◌≤◌, List, length}
use Rattle.block_index.specs.Places.{Cube}
use Rattle.block_index.specs.declared.wish.Wish.{Wish}
use Rattle.leaf_set.specs.LevelRules.{IsSolution}
use Rattle.leaf_set.specs.NextMesh.{next_mesh}
use Rattle.leaf_set.specs.Tiling.{Tiling}
use Rattle.block_fields.specs.Blocks.{BlockState, zero_block}
use Rattle.block_fields.specs.BlockStates.{AreBlocksOf, state_of}
use Rattle.block_fields.specs.States.{total}
use Rattle.prolong_restrict.specs.Families.{most_in_field}

-- the blocks of a set's leaves in order, all of one size; each field of their state adds up to few enough
abbrev pub AreBlocksOfSet : Tiling → List BlockState → Type 0
AreBlocksOfSet set blocks =
    (n : ℕ) × (fields : ℕ) × (depth : ℕ) × AreBlocksOf set.places n fields depth blocks
    × ((f : ℕ) → f < fields → total (state_of set.grid n fields blocks) f ≤ most_in_field)

-- the places of the next mesh at levels that solve the level rules for some wishes
abbrev pub IsNextMesh : Tiling → List Cube → Type 0
IsNextMesh set places =
    (wishes : List Wish) × (levels : List ℕ) × IsSolution set.grid set.places wishes levels × (places ≡ next_mesh set.places levels)

-- the second copies and the ghosts of a block are 0
abbrev pub MadeOfZeros : BlockState → Type 0
MadeOfZeros b = b ≡ record (zero_block b.place b.edge (length b.amounts) b.depth) { amounts = b.amounts }

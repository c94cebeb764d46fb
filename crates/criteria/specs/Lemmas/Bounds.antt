-- How great the numbers of a box can be, so that none passes the end of its type.
use Rattle.std.specs.Prelude.{ℕ, ◌*◌, ◌^◌}
use Rattle.block_index.specs.Places.{deepest, most_trees}

-- the most cells along the edge of a block
abbrev pub widest_block : ℕ
widest_block = 16

-- the most root cells along an axis: those of all trees
abbrev pub most_root_cells : ℕ
most_root_cells = most_trees * widest_block

-- the most leaves of the deepest level along an axis of as many trees as there may be
abbrev pub most_across : ℕ
most_across = most_trees * 2 ^ deepest

-- Which shard owns a leaf.
use Rattle.std.specs.Prelude.{ℕ, ◌*◌, ◌/◌}

-- the shard of leaf i, by how many shards and how many leaves there are: the leaves are split into runs
abbrev pub owner_of : ℕ → ℕ → ℕ → ℕ
owner_of shards leaves i = i * shards / leaves

-- What holds at each turn of the loop.
use Rattle.std.proofs.Common.{◌≡◌, ℕ, ◌<◌, All, length, get_or}
use Rattle.shard_map.specs.Owners.{owner_of}
use Rattle.shard_map.proofs.owners.assign.Given as goal

-- the leaves so far have their owners
abbrev pub invariant-loop-i : goal.invariant-loop-i
invariant-loop-i l = record {
  one_each : length l.owners.items ≡ l.i;
  owner : (k : ℕ) → k < l.i → get_or l.owners.items k 0 ≡ owner_of l.shards l.leaves k;
  below : All (λ owner. owner < l.shards) l.owners.items;
}

-- The leaves so far have their owners.
use Rattle.std.proofs.Common.{◌≡◌, ℕ, ◌<◌, All, length, get_or}
use Rattle.crew.specs.Owners.{owner_of}
use Rattle.crew.proofs.owners.owners_of.Given as goal

abbrev pub invariant-loop-leaf : goal.invariant-loop-leaf
invariant-loop-leaf l = record {
  one_each : length l.owners.items ≡ l.leaf;
  owner : (k : ℕ) → k < l.leaf → get_or l.owners.items k 0 ≡ owner_of l.shards l.leaves k;
  below : All (λ owner. owner < l.shards) l.owners.items;
}

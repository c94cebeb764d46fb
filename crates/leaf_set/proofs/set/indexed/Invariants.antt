-- What holds at each turn of the loop.
use Rattle.std.proofs.Common.{◌≡◌, take}
use Rattle.leaf_set.proofs.set.indexed.Given as goal

abbrev pub invariant-loop-place : goal.invariant-loop-place
invariant-loop-place l = l.set.keys ≡ take l.place-index l.place-items

-- What holds at each turn of the loop.
use Rattle.std.proofs.Common.{ℕ, ◌<◌}
use Rattle.leaf_set.specs.LeafFaults.{LiesOutside}
use Rattle.leaf_set.proofs.faults.first_outside.Given as goal

abbrev pub invariant-loop-at : goal.invariant-loop-at
invariant-loop-at l = (k : ℕ) → k < l.at → LiesOutside l.domain l.places k → ⊥

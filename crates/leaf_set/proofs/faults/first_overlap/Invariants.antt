-- What holds at each turn of the loop.
use Rattle.std.proofs.Common.{ℕ, ◌+◌, ◌<◌}
use Rattle.leaf_set.proofs.Overlaps.{CoversNext}
use Rattle.leaf_set.proofs.faults.first_overlap.Given as goal

abbrev pub invariant-loop-b : goal.invariant-loop-b
invariant-loop-b l = (k : ℕ) → k + 1 < l.b → CoversNext l.places k → ⊥

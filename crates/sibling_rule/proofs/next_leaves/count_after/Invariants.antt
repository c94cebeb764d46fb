-- The leaves so far.
use Rattle.std.proofs.Common.{◌≡◌, ◌+◌, length, drop}
use Rattle.leaf_set.specs.NextMesh.{next_mesh}
use Rattle.sibling_rule.proofs.next_leaves.count_after.Given as goal

abbrev pub invariant-loop-i : goal.invariant-loop-i
invariant-loop-i l =
    l.count + length (next_mesh (drop l.i l.set.places) (drop l.i l.levels)) ≡ length (next_mesh l.set.places l.levels)

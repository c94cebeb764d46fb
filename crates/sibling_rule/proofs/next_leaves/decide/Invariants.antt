-- The next mesh as far as the leaves were looked at.
use Rattle.std.proofs.Common.{◌≡◌, ◌++◌, drop}
use Rattle.leaf_set.specs.NextMesh.{next_mesh}
use Rattle.sibling_rule.proofs.next_leaves.decide.Given as goal

abbrev pub invariant-loop-i : goal.invariant-loop-i
invariant-loop-i l =
    l.places.items ++ next_mesh (drop l.i l.set.places) (drop l.i l.levels) ≡ next_mesh l.set.places l.levels

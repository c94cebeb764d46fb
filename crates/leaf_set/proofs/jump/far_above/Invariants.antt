-- What holds at each turn of the loop.
use Rattle.leaf_set.proofs.FarLeaves.{RisesTo}
use Rattle.leaf_set.proofs.jump.far_above.Given as goal

abbrev pub invariant-loop-above : goal.invariant-loop-above
invariant-loop-above l = RisesTo l.places.keys l.fn.place l.below

abbrev pub decreases-loop-above : goal.decreases-loop-above
decreases-loop-above l = l.below.level

-- What holds at each turn of the loop.
use Rattle.leaf_set.proofs.Ancestors.{HasSearched, levels_left}
use Rattle.leaf_set.proofs.set.LeafSet.covering.Given as goal

abbrev pub invariant-loop-over : goal.invariant-loop-over
invariant-loop-over l = HasSearched l.self.places l.fn.at l.over

abbrev pub decreases-loop-over : goal.decreases-loop-over
decreases-loop-over l = levels_left l.over

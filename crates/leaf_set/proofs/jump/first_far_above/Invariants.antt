-- What holds at each turn of the loop.
use Rattle.leaf_set.proofs.FarLeaves.{IsFirstOver}
use Rattle.leaf_set.proofs.jump.first_far_above.Given as goal

abbrev pub invariant-loop-s : goal.invariant-loop-s
invariant-loop-s l = IsFirstOver l.domain l.places.keys l.i l.leaf l.s l.first

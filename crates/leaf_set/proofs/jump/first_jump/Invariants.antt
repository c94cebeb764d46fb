-- What holds at each turn of the loop.
use Rattle.leaf_set.proofs.FirstJumps.{IsFirstJump}
use Rattle.leaf_set.proofs.jump.first_jump.Given as goal

abbrev pub invariant-loop-i : goal.invariant-loop-i
invariant-loop-i l = IsFirstJump l.domain l.places.keys l.i l.first

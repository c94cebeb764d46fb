-- What holds at each turn of the loop.
use Rattle.leaf_set.proofs.BarePlaces.{HasWalked}
use Rattle.leaf_set.proofs.bare_places.first_bare.Given as goal

abbrev pub invariant-loop-place : goal.invariant-loop-place
invariant-loop-place l = HasWalked l.domain l.places l.place-index l.next

-- What holds at each turn of the loop.
use Rattle.cello_neighbours.proofs.Collections.{Collects}
use Rattle.cello_neighbours.proofs.by_direction.leaves_against.Given as goal

abbrev pub invariant-loop-k : goal.invariant-loop-k
invariant-loop-k l = Collects l.set.places l.d l.place l.k l.found

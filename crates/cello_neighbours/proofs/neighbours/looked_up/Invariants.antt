-- What holds at each turn of the loop.
use Rattle.cello_neighbours.proofs.Gatherings.{Gathers}
use Rattle.cello_neighbours.proofs.neighbours.looked_up.Given as goal

abbrev pub invariant-loop-n : goal.invariant-loop-n
invariant-loop-n l = Gathers l.set.grid l.set.places l.b l.n l.found

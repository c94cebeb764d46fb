-- What holds at each turn of the loop.
use Rattle.leaf_set.proofs.InOrder.{InOrderBelow, ArePlacesBelow}
use Rattle.leaf_set.proofs.faults.first_unordered.Given as goal

abbrev pub invariant-loop-at : goal.invariant-loop-at
invariant-loop-at l = record { ordered : InOrderBelow l.at l.places; limits : ArePlacesBelow l.at l.places }

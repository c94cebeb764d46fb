-- The faces on the sides so far.
use Rattle.flux_register.proofs.FoundFaces.{FoundFaces}
use Rattle.flux_register.proofs.coarse_faces.coarse_faces.Given as goal

abbrev pub invariant-loop-number : goal.invariant-loop-number
invariant-loop-number l = FoundFaces l.set.grid l.set.places l.at l.number l.faces.items

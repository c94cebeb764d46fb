-- The laws, from their lemmas.
use Rattle.grid_fluxes.proofs.ClosedEnds.{closed_face-none, out-none}
use Rattle.grid_fluxes.proofs.laws.closed_ends.Goals as goal

pub returns-clause-face : goal.returns-clause-face
returns-clause-face c s flow f a v h = closed_face-none s flow f a v h

pub returns-clause-out : goal.returns-clause-out
returns-clause-out c s flow f w ends = out-none s w flow f ends

-- The laws, from their lemmas.
use Rattle.grid_fluxes.proofs.OneCell.{held-same_fluxes, upwind-SameFluxes}
use Rattle.grid_fluxes.proofs.laws.amounts_by_their_surroundings.Goals as goal

pub returns-clause-fluxes : goal.returns-clause-fluxes
returns-clause-fluxes c s t across one other f d w v h k leaf twin own same = held-same_fluxes s t across one other f d same w v h k leaf twin own

pub returns-clause-upwind : goal.returns-clause-upwind
returns-clause-upwind c s t across flow f d own same = upwind-SameFluxes s t across flow f d own same

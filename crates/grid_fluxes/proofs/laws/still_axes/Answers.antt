-- The laws, from their lemmas.
use Rattle.grid_fluxes.proofs.StillAxes.{given_along-none, taken_along-none, upwind_flux-none}
use Rattle.grid_fluxes.proofs.laws.still_axes.Goals as goal

pub returns-clause-given : goal.returns-clause-given
returns-clause-given c s across fluxes f a d h = given_along-none s across fluxes f a d h

pub returns-clause-taken : goal.returns-clause-taken
returns-clause-taken c s across fluxes f a d h = taken_along-none s across fluxes f a d h

pub returns-clause-upwind : goal.returns-clause-upwind
returns-clause-upwind c s flow f a v h = upwind_flux-none s flow f a v h

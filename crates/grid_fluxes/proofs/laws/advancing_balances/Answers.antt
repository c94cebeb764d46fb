-- The laws, from their lemmas.
use Rattle.grid_fluxes.proofs.Advancing.{total-advanced}
use Rattle.grid_fluxes.proofs.UpwindFluxes.{upwind-into, total-upwind}
use Rattle.grid_fluxes.proofs.laws.advancing_balances.Goals as goal

pub returns-clause-balance : goal.returns-clause-balance
returns-clause-balance c s fluxes f w h within = total-advanced s w fluxes f h within

pub returns-clause-upwind_into : goal.returns-clause-upwind_into
returns-clause-upwind_into c s flow f = upwind-into s flow f

pub returns-clause-upwind : goal.returns-clause-upwind
returns-clause-upwind c s flow f w h courant = total-upwind s flow f w h courant

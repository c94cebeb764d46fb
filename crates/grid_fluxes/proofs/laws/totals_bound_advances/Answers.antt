-- The laws, from their lemmas.
use Rattle.grid_fluxes.proofs.Advancing.{out-most, advanced-most}
use Rattle.grid_fluxes.proofs.laws.totals_bound_advances.Goals as goal

pub returns-clause-out : goal.returns-clause-out
returns-clause-out c s fluxes f w h within = out-most s w fluxes f h within

pub returns-clause-advanced : goal.returns-clause-advanced
returns-clause-advanced c s fluxes f d w h within = advanced-most s w fluxes f h within d

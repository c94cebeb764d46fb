-- The laws, from their lemmas.
use Rattle.grid_fluxes.proofs.Shares.{CarriesShares-GivesWithin, none_across-IsBelowFinest, finer_across-IsBelowFinest, IsWithinFiner-IsBelowFinest}
use Rattle.grid_fluxes.proofs.UpwindFluxes.{upwind-CarriesShares}
use Rattle.grid_fluxes.proofs.laws.shares_stay_within.Goals as goal

pub returns-clause-any : goal.returns-clause-any
returns-clause-any c s across fluxes f share den w below k = CarriesShares-GivesWithin s across fluxes f share den w below k

pub returns-clause-none_across : goal.returns-clause-none_across
returns-clause-none_across c s = none_across-IsBelowFinest s

pub returns-clause-finer_across : goal.returns-clause-finer_across
returns-clause-finer_across c s w = finer_across-IsBelowFinest s w

pub returns-clause-within_finer : goal.returns-clause-within_finer
returns-clause-within_finer c s across w only = IsWithinFiner-IsBelowFinest s across w only

pub returns-clause-upwind : goal.returns-clause-upwind
returns-clause-upwind c s flow f k = upwind-CarriesShares s flow f k

-- The laws, from their lemmas.
use Rattle.grid_fluxes.proofs.AmountBounds.{advanced_by-most, none_across-IsWithinFiner, provisional-most}
use Rattle.grid_fluxes.proofs.UpwindFluxes.{upwind-FluxesWithin}
use Rattle.grid_fluxes.proofs.laws.amounts_on_the_way.Goals as goal

pub returns-clause-most : goal.returns-clause-most
returns-clause-most c s across fluxes f m d w h low within only leaf = advanced_by-most s w fluxes f m h low within across only leaf.0 d leaf.1

pub returns-clause-none_across : goal.returns-clause-none_across
returns-clause-none_across c s = none_across-IsWithinFiner s

pub returns-clause-finer_across : goal.returns-clause-finer_across
returns-clause-finer_across c s = record { below = λ a d h. h; above = λ a d h. h }

pub returns-clause-upwind : goal.returns-clause-upwind
returns-clause-upwind c s flow f m k = upwind-FluxesWithin s flow f m k

pub returns-clause-provisional : goal.returns-clause-provisional
returns-clause-provisional c s across flow f d w h low k only leaf = provisional-most s across flow f d w h low k only leaf

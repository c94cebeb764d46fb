-- The laws, from their lemmas.
use Rattle.grid_fluxes.proofs.Replacing.{held-replaced, held-not_replaced, above-giving, above-taking, below-taking, below-giving}
use Rattle.grid_fluxes.proofs.laws.replacing_fluxes.Goals as goal

pub returns-clause-any : goal.returns-clause-any
returns-clause-any c s one other fluxes f d w h leaf p q = held-replaced s one other fluxes f d w h leaf p q

pub returns-clause-above_giving : goal.returns-clause-above_giving
returns-clause-above_giving c s one other fluxes f a d w h leaf p q r up = above-giving s one other fluxes f d w h leaf p q a r up

pub returns-clause-above_taking : goal.returns-clause-above_taking
returns-clause-above_taking c s one other fluxes f a d w h leaf p q r down = above-taking s one other fluxes f d w h leaf p q a r down

pub returns-clause-below_taking : goal.returns-clause-below_taking
returns-clause-below_taking c s one other fluxes f a d w h leaf p q r up = below-taking s one other fluxes f d w h leaf p q a r up

pub returns-clause-below_giving : goal.returns-clause-below_giving
returns-clause-below_giving c s one other fluxes f a d w h leaf p q r down = below-giving s one other fluxes f d w h leaf p q a r down

pub returns-clause-none : goal.returns-clause-none
returns-clause-none c s one other fluxes f d w h leaf r = held-not_replaced s one other fluxes f d w h leaf r

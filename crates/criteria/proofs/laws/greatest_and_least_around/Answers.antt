-- The law, from its lemmas.
use Rattle.criteria.proofs.Nearest.{around-greatest, around-least, greatest-around, least-around}
use Rattle.criteria.proofs.laws.greatest_and_least_around.Goals as goal

pub returns-clause-none_above : goal.returns-clause-none_above
returns-clause-none_above c = around-greatest

pub returns-clause-none_below : goal.returns-clause-none_below
returns-clause-none_below c = around-least

pub returns-clause-greatest_there : goal.returns-clause-greatest_there
returns-clause-greatest_there c = greatest-around

pub returns-clause-least_there : goal.returns-clause-least_there
returns-clause-least_there c = least-around

-- The law, from its lemma.
use Rattle.leaf_set.proofs.Solutions.{IsLeast-one}
use Rattle.leaf_set.proofs.LeastLevels.{least_exists}
use Rattle.leaf_set.proofs.level_laws.least_solution.Goals as goal

pub returns-clause-exists : goal.returns-clause-exists
returns-clause-exists c = least_exists

pub returns-clause-unique : goal.returns-clause-unique
returns-clause-unique c = IsLeast-one

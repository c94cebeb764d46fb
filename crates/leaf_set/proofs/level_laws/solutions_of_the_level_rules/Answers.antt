-- The law, from its lemma.
use Rattle.leaf_set.proofs.Solutions.{greatest_levels-IsSolution, IsSolution-greatest, IsSolution-changes, pointwise_min-IsSolution}
use Rattle.leaf_set.proofs.level_laws.solutions_of_the_level_rules.Goals as goal

pub returns-clause-greatest : goal.returns-clause-greatest
returns-clause-greatest c = greatest_levels-IsSolution

pub returns-clause-at_most_greatest : goal.returns-clause-at_most_greatest
returns-clause-at_most_greatest c grid mesh wishes levels i s = IsSolution-greatest grid mesh wishes levels s i

pub returns-clause-lesser : goal.returns-clause-lesser
returns-clause-lesser c = pointwise_min-IsSolution

pub returns-clause-by_at_most_one : goal.returns-clause-by_at_most_one
returns-clause-by_at_most_one c grid mesh wishes levels i a s = IsSolution-changes grid mesh wishes levels s i a

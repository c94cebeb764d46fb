-- The law, from its lemma.
use Rattle.leaf_set.proofs.Boxes.{Touches-sym, Touches-covers}
use Rattle.leaf_set.proofs.level_laws.touching_places.Goals as goal

pub returns-clause-symmetric : goal.returns-clause-symmetric
returns-clause-symmetric c = Touches-sym

pub returns-clause-grows : goal.returns-clause-grows
returns-clause-grows c = Touches-covers

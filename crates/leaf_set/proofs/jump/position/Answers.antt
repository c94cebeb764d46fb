-- What is left of the proof of this function.
use Rattle.block_index.proofs.Equality.{position-place_eq}
use Rattle.leaf_set.proofs.Positions.{position-none}
use Rattle.leaf_set.proofs.jump.position.Goals as goal

pub returns-clause-found : goal.returns-clause-found
returns-clause-found c = position-place_eq _ _ _ c.get_index_of.ensures.index

pub returns-clause-none : goal.returns-clause-none
returns-clause-none c = (position-none _ _ _ (returns-clause-found c) c.get_index_of.ensures.found).0

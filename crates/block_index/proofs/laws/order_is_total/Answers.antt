-- The law, from its lemma.
use Rattle.block_index.proofs.Ranks.{same_from_rank}
use Rattle.block_index.proofs.laws.order_is_total.Goals as goal

pub returns-clause-one_place : goal.returns-clause-one_place
returns-clause-one_place c = same_from_rank

-- The law, from its lemma.
use Rattle.block_index.proofs.Ranks.{nat_cmp-rank}
use Rattle.block_index.proofs.laws.order_goes_in_steps.Goals as goal

pub returns : goal.returns
returns c = record { steps = nat_cmp-rank }

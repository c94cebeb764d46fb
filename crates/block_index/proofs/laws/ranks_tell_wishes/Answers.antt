-- The law, from its lemma.
use Rattle.block_index.proofs.Wishes.{same_from_wish_rank}
use Rattle.block_index.proofs.laws.ranks_tell_wishes.Goals as goal

pub returns : goal.returns
returns c = record { one_wish = same_from_wish_rank }

-- The law, from its lemma.
use Rattle.block_index.proofs.Meetings.{MeetsAround-sym, MeetsAround-grow, MeetsAround-scale, MeetsAround-unscale}
use Rattle.block_index.proofs.axis_laws.meeting_stretches.Goals as goal

pub returns : goal.returns
returns c = record {
  symmetric = MeetsAround-sym;
  grows = MeetsAround-grow;
  scales = λ n wraps k a w c v some. (MeetsAround-unscale n wraps k a w c v some, MeetsAround-scale n wraps k a w c v);
}

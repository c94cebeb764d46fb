-- The law, from its lemma.
use Rattle.block_fields.proofs.SampleBounds.{held-most, sample-most}
use Rattle.block_fields.proofs.laws.totals_bound.Goals as goal

pub returns-clause-held : goal.returns-clause-held
returns-clause-held c s f d w h = held-most s w f h d

pub returns-clause-sample : goal.returns-clause-sample
returns-clause-sample c s f d w h = sample-most s w f h d

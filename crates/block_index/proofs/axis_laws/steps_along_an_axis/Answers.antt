-- The law, from its lemma.
use Rattle.block_index.proofs.Beyond.{IsNext-one, IsNext-none, IsNext-back}
use Rattle.block_index.proofs.axis_laws.steps_along_an_axis.Goals as goal

pub returns : goal.returns
returns c = record { one = IsNext-one; none = IsNext-none; back = IsNext-back }

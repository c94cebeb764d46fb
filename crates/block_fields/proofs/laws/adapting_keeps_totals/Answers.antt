-- The law, from its lemma.
use Rattle.block_fields.proofs.Adapting.{total-adapted}
use Rattle.block_fields.proofs.laws.adapting_keeps_totals.Goals as goal

pub returns : goal.returns
returns c = record { totals = total-adapted }

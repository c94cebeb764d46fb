-- The law, from its lemma.
use Rattle.block_fields.proofs.Writes.{amount-stays, amount-written, field-stays}
use Rattle.block_fields.proofs.block_laws.writing_amounts.Goals as goal

pub returns-clause-written : goal.returns-clause-written
returns-clause-written c b f x y z q k hf hx hy hz = amount-written b f x y z q hf hx hy k hz

pub returns-clause-other_cells : goal.returns-clause-other_cells
returns-clause-other_cells c b f x y z q u v w hf hx hy hu hv other = amount-stays b f x y z q hf hx hy u v w hu hv other

pub returns-clause-other_fields : goal.returns-clause-other_fields
returns-clause-other_fields c b f x y z q g other = field-stays b f x y z q g other

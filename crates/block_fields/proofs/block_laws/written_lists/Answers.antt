-- The law, from its lemma.
use Rattle.block_fields.proofs.Lendings.{with_before-whole, with_direction-whole, with_field-whole}
use Rattle.block_fields.proofs.block_laws.written_lists.Goals as goal

pub returns-clause-field : goal.returns-clause-field
returns-clause-field c b f w k h l = with_field-whole b k f h w l

pub returns-clause-before : goal.returns-clause-before
returns-clause-before c b f w k h l = with_before-whole b k f h w l

pub returns-clause-direction : goal.returns-clause-direction
returns-clause-direction c b f d w k h hd l = with_direction-whole b k f h w d hd l

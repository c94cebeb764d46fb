-- The law, from its lemma.
use Rattle.std.proofs.Common.{inl, inr}
use Rattle.block_fields.proofs.GhostWrites.{seen-elsewhere, seen-written}
use Rattle.block_fields.proofs.block_laws.writing_directions.Goals as goal

pub returns-clause-written : goal.returns-clause-written
returns-clause-written c b f d w x y z k hf here outside = seen-written b f d w k hf x y z here outside

pub returns-clause-other_directions : goal.returns-clause-other_directions
returns-clause-other_directions c b f d w g x y z k hf apart = seen-elsewhere b f d w k hf x y z g (inr apart)

pub returns-clause-other_fields : goal.returns-clause-other_fields
returns-clause-other_fields c b f d w g x y z k hf unlike = seen-elsewhere b f d w k hf x y z g (inl unlike)

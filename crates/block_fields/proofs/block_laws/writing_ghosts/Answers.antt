-- The law, from its lemma.
use Rattle.block_fields.proofs.GhostWrites.{ghost-stays, ghost-written, shell-stays}
use Rattle.block_fields.proofs.Seen.{seen-within}
use Rattle.block_fields.proofs.block_laws.writing_ghosts.Goals as goal

pub returns-clause-written : goal.returns-clause-written
returns-clause-written c b f x y z q k hf hx hy hz outside = ghost-written b k f x y z q hf hx hy hz outside

pub returns-clause-other_cells : goal.returns-clause-other_cells
returns-clause-other_cells c b f x y z q u v w k hf hx hy hz outside hu hv hw other = ghost-stays b k f x y z q hf hx hy hz outside u v w hu hv hw other

pub returns-clause-other_fields : goal.returns-clause-other_fields
returns-clause-other_fields c b f x y z q g other = shell-stays b f x y z q g other

pub returns-clause-own_cells : goal.returns-clause-own_cells
returns-clause-own_cells c b f x y z hx hy hz = seen-within b f x y z hx hy hz

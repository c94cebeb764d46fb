-- Bytes after the last part.
use Rattle.std.proofs.Common.{rules}
use Rattle.checkpoint.proofs.Stages.{trails}
use Rattle.checkpoint.proofs.rest.at_the_end.Goals as goal

pub returns-else-is_empty-clause-fault : goal.returns-else-is_empty-clause-fault
returns-else-is_empty-clause-fault c =
    trails c.args.file.now c.args.state c.args.left.now c.requires.stands (λ e. search (rules, e, c.if-is_empty, c.is_empty.ensures))

-- The block's wish is the state's.
use Rattle.std.proofs.Common.{◌∙◌}
use Rattle.criteria.proofs.Agreeing.{wish-wish_of}
use Rattle.criteria.proofs.deciding.wish.Goals as goal

pub returns-clause-of_state : goal.returns-clause-of_state
returns-clause-of_state c s i w k samples =
    c.criteria_wish.ensures.wish
    ∙ wish-wish_of s i c.args.block.now c.args.phase c.args.criteria.now c.edge.ensures.limits c.requires.limits w k samples

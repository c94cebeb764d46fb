-- What is left of the proof of this function.
use Rattle.block_fields.proofs.Insides.{kept-IsBlock}
use Rattle.block_fields.proofs.block.Block.place.Goals as goal

pub returns-clause-limits : goal.returns-clause-limits
returns-clause-limits c = kept-IsBlock c.self.inside c.self.invariant c.args.self.now c.self.view_is

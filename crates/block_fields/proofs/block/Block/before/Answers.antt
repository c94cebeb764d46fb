-- What is left of the proof of this function.
use Rattle.std.proofs.Common.{◌*◌, length, ap, ◌∙◌}
use Rattle.block_fields.specs.Blocks.{BlockState}
use Rattle.block_fields.proofs.Insides.{kept-IsBlock, length-before}
use Rattle.block_fields.proofs.block.Block.before.Goals as goal

pub returns-clause-cells : goal.returns-clause-cells
returns-clause-cells c =
    ap length c.as_slice.ensures.value
    ∙ length-before c.self.inside c.self.invariant c.args.self.now c.self.view_is c.args.field c.requires.field c.index.result.now c.index.ensures
    ∙ ap (λ (b : BlockState). b.edge * b.edge * b.edge) c.self.view_is

pub returns-clause-limits : goal.returns-clause-limits
returns-clause-limits c = kept-IsBlock c.self.inside c.self.invariant c.args.self.now c.self.view_is

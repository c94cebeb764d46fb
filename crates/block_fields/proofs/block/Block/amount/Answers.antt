-- What is left of the proof of this function.
use Rattle.std.proofs.Common.{◌*◌, ◌<◌, length, sym, ap, ◌∙◌, subst}
use Rattle.block_fields.specs.Blocks.{BlockState}
use Rattle.block_fields.proofs.Insides.{length-amounts}
use Rattle.block_fields.proofs.block.Block.amount.Goals as goal

pub bounds-amounts-at : goal.bounds-amounts-at
bounds-amounts-at c =
    let i = c.number-at.result in
    let long = length-amounts c.self.inside c.self.invariant c.args.self.now c.self.view_is c.args.field c.requires.field c.index.result.now c.index.ensures in
    subst (λ k. i < k) (sym (ap length c.as_slice-amounts.ensures.value ∙ long))
    (subst (λ (b : BlockState). i < b.edge * b.edge * b.edge) (sym c.self.view_is) c.number-at.ensures.within)

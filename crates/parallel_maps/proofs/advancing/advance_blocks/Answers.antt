-- The block that comes next, one block more, and all.
use Rattle.std.proofs.Common.{◌≡◌, ◌<◌, Some, length, refl, sym, ◌∙◌, arith}
use Rattle.std.specs.Prelude.{slice_get}
use Rattle.std.proofs.lemmas.Option.{slice_get_read}
use Rattle.parallel_maps.proofs.BlockAdvances.{advances-all, advances-more}
use Rattle.parallel_maps.proofs.advancing.advance_blocks.Goals as goal

pub advance_block-requires : goal.advance_block-requires
advance_block-requires c =
    let blocks = c.loop-at.blocks.items in
    let at = c.loop-at.at in
    let below : at < length blocks = omega (arith, c.loop-at-test.true, c.len.ensures, c.loop-at.invariant.one_each) in
    let here : slice_get blocks at ≡ Some c.index_mut.result.now = slice_get_read blocks (length blocks) at c.index_mut.result.now refl below c.index_mut.ensures.value in
    record { can = c.requires.can at c.index_mut.result.now (sym (c.loop-at.invariant.ahead at (omega arith)) ∙ here) }

pub loop-at-preserved : goal.loop-at-preserved
loop-at-preserved c =
    let blocks = c.loop-at.blocks.items in
    let at = c.loop-at.at in
    let below : at < length blocks = omega (arith, c.loop-at-test.true, c.len.ensures, c.loop-at.invariant.one_each) in
    let here : slice_get blocks at ≡ Some c.index_mut.result.now = slice_get_read blocks (length blocks) at c.index_mut.result.now refl below c.index_mut.ensures.value in
    advances-more c.args.params.now at c.args.blocks.now.items blocks c.loop-at.all.items c.push.new.self.items c.index_mut.result.now c.advance_block.new.block
    c.in_ok-faces.faces c.loop-at.invariant here c.in_ok-faces.ensures.advanced c.in_ok-push.ensures.items

pub returns : goal.returns
returns c = record {
  advanced = advances-all c.args.params.now c.loop-at.at c.args.blocks.now.items c.loop-at.blocks.items c.loop-at.all.items
      (λ below. omega (arith, below, c.loop-at-test.false, c.len.ensures)) (omega (arith, c.loop-at.auto.at-end, c.len.ensures)) c.loop-at.invariant;
}

use Rattle.std.proofs.Common.{arith}
use Rattle.cello_bench.proofs.SmallFields.{small-block}
use Rattle.cello_bench.proofs.small_blocks.is_small.Goals as goal

pub returns : goal.returns
returns c = record {
  small = λ t. small-block c.args.block.now c.loop-field.field (omega (arith, c.loop-field-test.false, c.fields-field-end.ensures.fields)) c.loop-field.invariant;
}

-- One field more.
use Rattle.std.proofs.Common.{◌≡◌, ◌*◌, ◌<◌, length, slice_set, ap, ◌∙◌, subst, arith}
use Rattle.std.proofs.lemmas.List.{length-set, length-replicate}
use Rattle.block_fields.specs.Blocks.{BlockState, amounts_of}
use Rattle.block_fields.specs.Lending.{refilled}
use Rattle.checkpoint.specs.Reading.{AreWords}
use Rattle.checkpoint.proofs.BlockSteps.{FieldsRead-more, part-within}
use Rattle.checkpoint.proofs.blocks.read_block.Goals as goal

pub part_of-here-requires : goal.part_of-here-requires
part_of-here-requires c = omega (arith, part-within (8 * (c.args.n * c.args.n * c.args.n)) c.loop-f.f c.args.fields (omega (arith, c.loop-f-test.true)), c.requires.whole)

pub loop-f-preserved : goal.loop-f-preserved
loop-f-preserved c =
    let size = 8 * (c.args.n * c.args.n * c.args.n) in
    let b = c.loop-f.block in
    let f = c.loop-f.f in
    let w = c.read_numbers-total.new.numbers in
    let many : length c.in_ok-block.block.amounts ≡ c.args.fields = ap (λ (b : BlockState). length b.amounts) c.in_ok-block.ensures.zeros ∙ length-replicate c.args.fields _ in
    let below : f < length b.amounts = omega (arith, c.loop-f-test.true, c.loop-f.invariant.long, many) in
    let set = length-set b.amounts f (refilled (amounts_of b f) w) in
    record {
      within = omega (arith, c.loop-f-test.true);
      same = ap (λ (k : BlockState). record k { amounts = slice_set b.amounts f (refilled (amounts_of b f) w) }) c.loop-f.invariant.same;
      long = set ∙ c.loop-f.invariant.long;
      read = FieldsRead-more size c.args.bytes.now f b c.args.sums.now c.loop-f.sums w c.read_numbers-total.result c.loop-f.invariant.read below
          (c.read_numbers-total.ensures.long ∙ ap length c.field_mut.ensures.amounts) (omega (arith, c.loop-f-test.true, c.loop-f.invariant.read.long, c.requires.one_each))
          (omega (arith, part-within size f c.args.fields (omega (arith, c.loop-f-test.true)), c.requires.whole))
          (subst (AreWords w) c.part_of-here.ensures.part c.read_numbers-total.ensures.words) c.read_numbers-total.ensures.total c.read_numbers-total.ensures.limit;
    }

-- One block more.
use Rattle.std.proofs.Common.{rules, ◌*◌, ◌<◌, length, ◌∙◌, subst, arith}
use Rattle.std.specs.List.{flat_map}
use Rattle.checkpoint.specs.Reading.{AreWords}
use Rattle.checkpoint.proofs.BlockSteps.{BlocksRead-blocks, BlocksRead-more, part-within}
use Rattle.checkpoint.proofs.blocks.read_blocks.Goals as goal

pub part_of-here-requires : goal.part_of-here-requires
part_of-here-requires c =
    omega (arith, part-within (c.args.fields * (8 * (c.args.n * c.args.n * c.args.n))) c.loop-i.i (length c.args.places.now) (omega (arith, c.loop-i-test.true)), c.requires.whole)

pub loop-i-preserved : goal.loop-i-preserved
loop-i-preserved c =
    let size = c.args.fields * (8 * (c.args.n * c.args.n * c.args.n)) in
    let i = c.loop-i.i in
    let b = c.in_ok-block.block in
    let below : i < length c.args.places.now = omega (arith, c.loop-i-test.true) in
    record {
      within = omega (arith, below);
      long = c.read_block.ensures.long ∙ c.loop-i.invariant.long;
      read = rw c.in_ok-push.ensures.items (BlocksRead-more size c.args.n c.args.fields c.args.places.now c.args.bytes.now i c.loop-i.blocks.items c.loop-i.sums c.read_block.new.sums b
          c.loop-i.invariant.read below (search (rules, c.in_ok-block.ensures.place, c.index-places-i.is))
          (omega (arith, part-within size i (length c.args.places.now) below, c.requires.whole)) c.in_ok-block.ensures.block
          (subst (AreWords (flat_map (λ amounts. amounts) b.amounts)) c.part_of-here.ensures.part c.in_ok-block.ensures.words) c.in_ok-block.ensures.added c.in_ok-block.ensures.limit);
    }

pub returns-clause-blocks : goal.returns-clause-blocks
returns-clause-blocks c =
    BlocksRead-blocks (c.args.fields * (8 * (c.args.n * c.args.n * c.args.n))) c.args.n c.args.fields c.args.places.now c.args.bytes.now c.loop-i.i c.loop-i.blocks.items c.loop-i.sums
    c.loop-i.invariant.read (omega (arith, c.loop-i-test.false))

-- The blocks are those of the set.
use Rattle.std.proofs.Common.{List, subst, sym}
use Rattle.block_fields.specs.Blocks.{BlockState}
use Rattle.block_fields.specs.BlockStates.{AreBlocksOf}
use Rattle.cello_bench.proofs.writing.write_once.Goals as goal

pub write_fields-requires : goal.write_fields-requires
write_fields-requires c =
    let (n, fields, depth, are, few) = c.requires.blocks in
    record {
      blocks = (
        n,
        fields,
        depth,
        subst (λ (b : List BlockState). AreBlocksOf c.args.grid.now.set.places n fields depth b) (sym c.deref.ensures.value) are,
      );
    }

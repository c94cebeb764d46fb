-- The root blocks are those of the root leaves, and no field has too much.
use Rattle.cello_bench.proofs.Roots.{AreBlocksOfSet-roots}
use Rattle.cello_bench.proofs.inputs.roots.Goals as goal

pub returns : goal.returns
returns c = record {
  blocks = AreBlocksOfSet-roots c.args.params.now c.in_ok-set.set c.domain.result.now c.in_ok-blocks.blocks.items c.domain.ensures.limits
      c.domain.ensures.domain c.in_ok-set.ensures.grid c.in_ok-set.ensures.places c.in_ok-blocks.ensures.blocks c.in_ok-blocks.ensures.state
      c.initial_totals.ensures.most;
}

use Rattle.cello_bench.specs.Inputs.{AllSmall}
use Rattle.cello_bench.proofs.small_blocks.small_ones.Given as goal

abbrev pub invariant-loop-block : goal.invariant-loop-block
invariant-loop-block l = AllSmall l.small.items

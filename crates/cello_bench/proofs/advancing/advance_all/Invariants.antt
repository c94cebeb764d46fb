use Rattle.std.proofs.Common.{◌≡◌, length}
use Rattle.std.specs.Vec.Iter.{into_iter_items, into_iter_len}
use Rattle.cello_bench.specs.Inputs.{AllSmall}
use Rattle.cello_bench.proofs.advancing.advance_all.Given as goal

abbrev pub invariant-loop-block : goal.invariant-loop-block
invariant-loop-block l = record {
  rest : AllSmall (into_iter_items l.block-iterator);
  long : into_iter_len l.block-iterator ≡ length (into_iter_items l.block-iterator);
}

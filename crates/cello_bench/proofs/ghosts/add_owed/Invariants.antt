use Rattle.std.proofs.Common.{◌≡◌, length}
use Rattle.std.specs.Vec.Iter.{into_iter_items, into_iter_len}
use Rattle.cello_bench.specs.Inputs.{AllFit}
use Rattle.cello_bench.proofs.ghosts.add_owed.Given as goal

abbrev pub invariant-loop-piece : goal.invariant-loop-piece
invariant-loop-piece l = record {
  fit : AllFit l.set l.block.edge l.block.depth (length l.block.amounts) l.found.items;
  rest : AllFit l.set l.block.edge l.block.depth (length l.block.amounts) (into_iter_items l.piece-iterator);
  long : into_iter_len l.piece-iterator ≡ length (into_iter_items l.piece-iterator);
}

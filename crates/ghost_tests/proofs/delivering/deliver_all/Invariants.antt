use Rattle.std.proofs.Common.{◌≡◌, length}
use Rattle.std.specs.Vec.Iter.{into_iter_items, into_iter_len}
use Rattle.ghost_tests.specs.Delivering.{AllFit}
use Rattle.ghost_tests.proofs.delivering.deliver_all.Given as goal

abbrev pub invariant-loop-piece : goal.invariant-loop-piece
invariant-loop-piece l = record {
  rest : AllFit l.domain l.size.edge l.size.depth (into_iter_items l.piece-iterator);
  long : into_iter_len l.piece-iterator ≡ length (into_iter_items l.piece-iterator);
}

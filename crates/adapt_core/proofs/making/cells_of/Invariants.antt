-- The first cells are taken out, and the others are still to come.
use Rattle.std.proofs.Common.{◌≡◌, ◌++◌, Some, length, map}
use Rattle.std.specs.Vec.Iter.{into_iter_items, into_iter_len}
use Rattle.adapt_core.proofs.making.cells_of.Given as goal

abbrev pub invariant-loop-slot : goal.invariant-loop-slot
invariant-loop-slot l = record {
  cells : map Some l.cells.items ++ into_iter_items l.slot-iterator ≡ l.fn.slots.items;
  long : into_iter_len l.slot-iterator ≡ length (into_iter_items l.slot-iterator);
}

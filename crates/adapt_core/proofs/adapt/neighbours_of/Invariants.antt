-- The lists of the first cells are taken out, and the other cells are still to come.
use Rattle.std.proofs.Common.{◌≡◌, ℕ, ◌++◌, Vec, Global, length, map}
use Rattle.std.specs.Vec.Iter.{into_iter_items, into_iter_len}
use Rattle.adapt_core.specs.Cells.{LeafState}
use Rattle.adapt_core.proofs.adapt.neighbours_of.Given as goal

abbrev pub invariant-loop-cell : goal.invariant-loop-cell
invariant-loop-cell l = record {
  lists : map (λ (v : Vec ℕ Global). v.items) l.lists.items ++ map (λ (c : LeafState). c.part.neighbours) (into_iter_items l.cell-iterator) ≡ map (λ (c : LeafState). c.part.neighbours) l.fn.cells.items;
  long : into_iter_len l.cell-iterator ≡ length (into_iter_items l.cell-iterator);
}

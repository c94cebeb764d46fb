-- A first cell for each block so far, with its fluxes.
use Rattle.std.proofs.Common.{◌≡◌, length}
use Rattle.std.specs.Vec.Iter.{into_iter_items, into_iter_len}
use Rattle.flux_register.proofs.FirstBlocks.{Walks}
use Rattle.flux_register.proofs.first_cells.first_cells.Given as goal

abbrev pub invariant-loop-block : goal.invariant-loop-block
invariant-loop-block l = record {
  walks : Walks l.set.grid l.set.places l.fn.blocks.items l.fn.faces.items l.cells.items (into_iter_items l.block-iterator) (into_iter_items l.faces);
  long : into_iter_len l.block-iterator ≡ length (into_iter_items l.block-iterator);
  left : into_iter_len l.faces ≡ length (into_iter_items l.faces);
}

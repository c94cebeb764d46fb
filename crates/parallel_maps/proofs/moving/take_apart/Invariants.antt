-- The first blocks and fluxes are put back, and the others are still to come.
use Rattle.std.proofs.Common.{◌≡◌, ◌++◌, Some, length, map}
use Rattle.std.specs.Vec.Iter.{into_iter_items, into_iter_len}
use Rattle.parallel_maps.specs.declared.moving.Moving.{Moving}
use Rattle.parallel_maps.proofs.moving.take_apart.Given as goal

abbrev pub invariant-loop-one : goal.invariant-loop-one
invariant-loop-one l = record {
  blocks : l.blocks.items ++ map (λ (m : Moving). m.block) (into_iter_items l.one-iterator) ≡ map (λ (m : Moving). m.block) l.fn.moving.items;
  faces : map Some l.all.items ++ map (λ (m : Moving). m.faces) (into_iter_items l.one-iterator) ≡ map (λ (m : Moving). m.faces) l.fn.moving.items;
  long : into_iter_len l.one-iterator ≡ length (into_iter_items l.one-iterator);
}

-- The blocks so far, and the others are still to come.
use Rattle.std.proofs.Common.{◌≡◌, ◌++◌, length, map}
use Rattle.std.specs.Vec.Iter.{into_iter_items, into_iter_len}
use Rattle.parallel_maps.specs.declared.moving.Moving.{Moving}
use Rattle.parallel_maps.proofs.moving.all_still.Given as goal

abbrev pub invariant-loop-block : goal.invariant-loop-block
invariant-loop-block l = record {
  walks : map (λ (m : Moving). m.block) l.moving.items ++ into_iter_items l.block-iterator ≡ l.fn.blocks.items;
  long : into_iter_len l.block-iterator ≡ length (into_iter_items l.block-iterator);
}

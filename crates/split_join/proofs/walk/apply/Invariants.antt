use Rattle.std.proofs.Common.{◌≡◌, ℕ, List, length}
use Rattle.std.specs.Vec.Iter.{into_iter_items, into_iter_len}
use Rattle.block_index.specs.declared.wish.Wish.{Wish}
use Rattle.leaf_set.specs.LevelRules.{IsSolution}
use Rattle.leaf_set.specs.NextMesh.{next_mesh}
use Rattle.split_join.proofs.Walks.{Walk}
use Rattle.split_join.proofs.walk.apply.Given as goal

abbrev pub invariant-loop-block : goal.invariant-loop-block
invariant-loop-block l = record {
  walk : (wishes : List Wish) (levels : List ℕ) → IsSolution l.old.grid l.old.places wishes levels → l.new.places ≡ next_mesh l.old.places levels →
      Walk l.old.places levels l.fn.blocks.items l.new.places l.family.items l.next.items (into_iter_items l.block-iterator);
  long : into_iter_len l.block-iterator ≡ length (into_iter_items l.block-iterator);
}

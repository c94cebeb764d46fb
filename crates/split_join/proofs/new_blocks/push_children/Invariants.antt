use Rattle.std.proofs.Common.{◌≡◌, ◌++◌, map}
use Rattle.std.specs.List.{range_with_len}
use Rattle.split_join.specs.Lemmas.NewBlocks.{child_block}
use Rattle.split_join.proofs.new_blocks.push_children.Given as goal

abbrev pub invariant-loop-k : goal.invariant-loop-k
invariant-loop-k l = l.next.items ≡ l.initial.next.items ++ map (child_block l.block) (range_with_len 0 l.k)

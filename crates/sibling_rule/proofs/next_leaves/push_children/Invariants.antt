-- The children so far.
use Rattle.std.proofs.Common.{◌≡◌, ◌++◌, map}
use Rattle.std.specs.List.{range_with_len}
use Rattle.block_index.specs.Places.{child_of}
use Rattle.sibling_rule.proofs.next_leaves.push_children.Given as goal

abbrev pub invariant-loop-k : goal.invariant-loop-k
invariant-loop-k l = l.places.items ≡ l.initial.places.items ++ map (child_of l.leaf) (range_with_len 0 l.k)

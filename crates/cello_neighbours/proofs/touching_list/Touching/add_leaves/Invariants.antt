-- What holds at each turn of the loop.
use Rattle.std.proofs.Common.{take}
use Rattle.cello_neighbours.specs.Lemmas.Added.{IsAdded}
use Rattle.cello_neighbours.proofs.touching_list.Touching.add_leaves.Given as goal

abbrev pub invariant-loop-leaf : goal.invariant-loop-leaf
invariant-loop-leaf l = IsAdded l.b (take l.leaf-index l.leaves) l.fn.self l.self

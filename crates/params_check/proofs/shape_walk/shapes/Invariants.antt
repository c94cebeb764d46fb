-- What holds at each turn of the loop.
use Rattle.std.proofs.Common.{codes}
use Rattle.params_check.specs.Keys.{shape_kind, shape_keys}
use Rattle.params_check.specs.TreeValues.{shape_of, word_at}
use Rattle.params_check.specs.Walks.{keys_faults}
use Rattle.params_check.proofs.Subs.{HasWalked}
use Rattle.params_check.proofs.shape_walk.shapes.Given as goal

abbrev pub invariant-loop-item : goal.invariant-loop-item
invariant-loop-item l =
    HasWalked (shape_of l.names) (λ sub. keys_faults (codes "Initial") sub.name l.names (word_at shape_kind sub.sets) sub.sets shape_keys)
    l.items l.item-index l.shapes.items

-- What holds at each turn of the loop.
use Rattle.std.proofs.Common.{codes}
use Rattle.params_check.specs.Keys.{criterion_kind, criterion_keys}
use Rattle.params_check.specs.TreeValues.{criterion_of, word_at}
use Rattle.params_check.specs.Walks.{keys_faults}
use Rattle.params_check.proofs.Subs.{HasWalked}
use Rattle.params_check.proofs.criterion_walk.criteria.Given as goal

abbrev pub invariant-loop-item : goal.invariant-loop-item
invariant-loop-item l =
    HasWalked (criterion_of l.names) (λ sub. keys_faults (codes "Adapt") sub.name l.names (word_at criterion_kind sub.sets) sub.sets criterion_keys)
    l.items l.item-index l.criteria.items

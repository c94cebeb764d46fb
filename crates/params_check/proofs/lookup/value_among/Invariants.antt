-- What holds at each turn of the loop.
use Rattle.std.proofs.Common.{◌≡◌, drop}
use Rattle.params_check.specs.Values.{settings_among, value_of}
use Rattle.params_check.proofs.lookup.value_among.Given as goal

abbrev pub invariant-loop-item : goal.invariant-loop-item
invariant-loop-item l = value_of l.key (settings_among (drop l.item-index l.items)) ≡ value_of l.key (settings_among l.items)

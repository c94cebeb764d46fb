-- What holds at each turn of the loop.
use Rattle.std.proofs.Common.{◌≡◌, drop}
use Rattle.params_check.specs.Values.{items_of}
use Rattle.params_check.proofs.lookup.items_of.Given as goal

abbrev pub invariant-loop-group : goal.invariant-loop-group
invariant-loop-group l = items_of l.name (drop l.group-index l.groups) ≡ items_of l.name l.groups

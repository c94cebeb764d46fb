-- What holds at each turn of the loop.
use Rattle.std.proofs.Common.{◌≡◌, drop}
use Rattle.params_check.specs.Values.{value_of}
use Rattle.params_check.proofs.lookup.value_of.Given as goal

abbrev pub invariant-loop-setting : goal.invariant-loop-setting
invariant-loop-setting l = value_of l.key (drop l.setting-index l.sets) ≡ value_of l.key l.sets

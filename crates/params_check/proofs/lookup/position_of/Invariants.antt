-- What holds at each turn of the loop.
use Rattle.std.proofs.Common.{◌≡◌, ◌+◌, drop}
use Rattle.params_check.specs.TreeValues.{position_of}
use Rattle.params_check.proofs.lookup.position_of.Given as goal

abbrev pub invariant-loop-i : goal.invariant-loop-i
invariant-loop-i l = l.i + position_of l.word (drop l.i l.names) ≡ position_of l.word l.names

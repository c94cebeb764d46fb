-- What holds at each turn of the loop.
use Rattle.std.proofs.Common.{◌≡◌, take, map}
use Rattle.params_check.specs.Values.{word_of}
use Rattle.params_check.proofs.slots.names_of.Given as goal

abbrev pub invariant-loop-atom : goal.invariant-loop-atom
invariant-loop-atom l = l.names.items ≡ map word_of (take l.atom-index l.atoms)

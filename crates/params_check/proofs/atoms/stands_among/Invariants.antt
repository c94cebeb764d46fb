-- What holds at each turn of the loop.
use Rattle.std.proofs.Common.{◌≡◌, drop, map}
use Rattle.params_check.specs.Keys.{is_among}
use Rattle.params_check.specs.Values.{word_of}
use Rattle.params_check.proofs.atoms.stands_among.Given as goal

abbrev pub invariant-loop-atom : goal.invariant-loop-atom
invariant-loop-atom l = is_among (map word_of (drop l.atom-index l.atoms)) l.word ≡ is_among (map word_of l.atoms) l.word

-- What holds at each turn of the loop.
use Rattle.std.proofs.Common.{◌≡◌, drop, map}
use Rattle.params_check.specs.Forms.{all_differ}
use Rattle.params_check.specs.Values.{word_of}
use Rattle.params_check.proofs.atoms.all_differ.Given as goal

abbrev pub invariant-loop-i : goal.invariant-loop-i
invariant-loop-i l = all_differ (map word_of (drop l.i l.atoms)) ≡ all_differ (map word_of l.atoms)

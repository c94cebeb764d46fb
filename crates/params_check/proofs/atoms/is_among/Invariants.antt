-- What holds at each turn of the loop.
use Rattle.std.proofs.Common.{◌≡◌, drop, map}
use Rattle.params_check.specs.Keys.{is_among}
use Rattle.params_check.proofs.atoms.is_among.Given as goal

abbrev pub invariant-loop-word : goal.invariant-loop-word
invariant-loop-word l = is_among (map (λ w. w.now) (drop l.word-index l.words)) l.bytes ≡ is_among (map (λ w. w.now) l.words) l.bytes

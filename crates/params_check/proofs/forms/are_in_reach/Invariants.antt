-- What holds at each turn of the loop.
use Rattle.std.proofs.Common.{◌≡◌, drop}
use Rattle.params_check.specs.Forms.{each, is_in_reach}
use Rattle.params_check.specs.Lemmas.Tables.{wanted_of}
use Rattle.params_check.proofs.forms.are_in_reach.Given as goal

abbrev pub invariant-loop-atom : goal.invariant-loop-atom
invariant-loop-atom l =
    each (is_in_reach l.names l.kind (wanted_of l.wanted)) (drop l.atom-index l.atoms) ≡ each (is_in_reach l.names l.kind (wanted_of l.wanted)) l.atoms

-- The loop over the elements of a list.
use Rattle.std.proofs.Common.{◌≡◌, ◌++◌, take}
use Rattle.params_syntax.specs.Canonical.{elements_text}
use Rattle.params_syntax.proofs.writing.push_elements.Given as goal

abbrev pub invariant-loop-i : goal.invariant-loop-i
invariant-loop-i l = l.text.items ≡ l.initial.text.items ++ elements_text (take l.i l.atoms)

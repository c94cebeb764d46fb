-- The loop over the groups of a tree.
use Rattle.std.proofs.Common.{◌≡◌, take}
use Rattle.std.specs.List.{flat_map}
use Rattle.params_syntax.specs.Canonical.{group_text}
use Rattle.params_syntax.proofs.writing.write.Given as goal

abbrev pub invariant-loop-group : goal.invariant-loop-group
invariant-loop-group l = l.text.items ≡ flat_map group_text (take l.group-index l.group-items)

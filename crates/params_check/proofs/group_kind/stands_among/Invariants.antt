-- What holds at each turn of the loop.
use Rattle.std.proofs.Common.{◌≡◌, drop, map}
use Rattle.params_check.specs.Lemmas.Tables.{entry}
use Rattle.params_check.specs.Walks.{has_key}
use Rattle.params_check.proofs.group_kind.stands_among.Given as goal

abbrev pub invariant-loop-key : goal.invariant-loop-key
invariant-loop-key l = has_key (map entry (drop l.key-index l.keys)) l.name ≡ has_key (map entry l.keys) l.name

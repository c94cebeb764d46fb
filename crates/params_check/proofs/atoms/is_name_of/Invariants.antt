-- What holds at each turn of the loop.
use Rattle.std.proofs.Common.{◌≡◌, drop}
use Rattle.params_check.specs.Keys.{is_among}
use Rattle.params_check.proofs.atoms.is_name_of.Given as goal

abbrev pub invariant-loop-name : goal.invariant-loop-name
invariant-loop-name l = is_among (drop l.name-index l.names) l.bytes ≡ is_among l.names l.bytes

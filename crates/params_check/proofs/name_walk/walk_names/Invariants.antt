-- What holds at each turn of the loop.
use Rattle.std.proofs.Common.{◌≡◌, [], take, drop}
use Rattle.params_check.specs.Lemmas.Firsts.{first_fault}
use Rattle.params_check.specs.Walks.{in_turn, group_faults}
use Rattle.params_check.proofs.name_walk.walk_names.Given as goal

abbrev pub invariant-loop-i : goal.invariant-loop-i
invariant-loop-i l = first_fault (in_turn (group_faults) (take l.i l.groups) (drop l.i l.groups)) ≡ first_fault (in_turn (group_faults) [] l.groups)

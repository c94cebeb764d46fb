-- What holds at each turn of the loop.
use Rattle.std.proofs.Common.{◌≡◌, [], take, drop}
use Rattle.params_check.specs.Lemmas.Firsts.{first_fault}
use Rattle.params_check.specs.Lemmas.Groups.{keys_of}
use Rattle.params_check.specs.Walks.{in_turn, sub_setting_faults}
use Rattle.params_check.proofs.name_walk.walk_settings.Given as goal

abbrev pub invariant-loop-i : goal.invariant-loop-i
invariant-loop-i l = first_fault (in_turn (sub_setting_faults l.group l.sub (keys_of l.kind)) (take l.i l.sets) (drop l.i l.sets)) ≡ first_fault (in_turn (sub_setting_faults l.group l.sub (keys_of l.kind)) [] l.sets)

-- What holds at each turn of the loop.
use Rattle.std.proofs.Common.{◌≡◌, ◌-◌, length, flat_map}
use Rattle.std.specs.List.{range_with_len}
use Rattle.params_check.specs.Lemmas.Firsts.{first_fault}
use Rattle.params_check.specs.Walks.{total_faults}
use Rattle.params_check.proofs.together.walk_totals.Given as goal

abbrev pub invariant-loop-i : goal.invariant-loop-i
invariant-loop-i l =
    first_fault (flat_map (total_faults l.values) (range_with_len l.i (length l.values.fields - l.i)))
    ≡ first_fault (flat_map (total_faults l.values) (range_with_len 0 (length l.values.fields)))

use Rattle.std.proofs.Common.{◌≡◌, ◌≤◌, ◌^◌, sum, take}
use Rattle.ghost_tests.proofs.delivering.add_up_to_few.Given as goal

abbrev pub invariant-loop-k : goal.invariant-loop-k
invariant-loop-k l = record {
  total : l.total ≡ sum (take l.k l.amounts);
  few : l.total ≤ 2 ^ 42;
}

-- The cells so far.
use Rattle.std.proofs.Common.{◌≤◌}
use Rattle.params_check.specs.Amounts.{lies_between}
use Rattle.initial_fill.specs.Lemmas.Adding.{Adds}
use Rattle.initial_fill.proofs.field.add_between.Given as goal

abbrev pub invariant-loop-j : goal.invariant-loop-j
invariant-loop-j l = record {
  none : l.fn.high ≤ l.fn.low → l.j ≤ l.fn.low;
  added : Adds (lies_between l.fn.low l.j) l.amount l.initial.amounts l.amounts;
}

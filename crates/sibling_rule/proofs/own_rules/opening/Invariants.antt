-- The opening levels so far.
use Rattle.std.proofs.Common.{◌≡◌, length}
use Rattle.sibling_rule.proofs.OpeningSteps.{AreOpening}
use Rattle.sibling_rule.proofs.own_rules.opening.Given as goal

abbrev pub invariant-loop-i : goal.invariant-loop-i
invariant-loop-i l = record {
  one_each : length l.levels.items ≡ l.i;
  opening : AreOpening l.set.grid l.set.places l.wishes l.levels.items;
}

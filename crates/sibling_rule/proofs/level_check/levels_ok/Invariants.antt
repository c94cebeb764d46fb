-- None of the leaves so far breaks a rule.
use Rattle.std.proofs.Common.{ℕ, ◌<◌}
use Rattle.sibling_rule.specs.BrokenRules.{Breaks}
use Rattle.sibling_rule.specs.declared.broken.LevelRule.{LevelRule}
use Rattle.sibling_rule.proofs.level_check.levels_ok.Given as goal

abbrev pub invariant-loop-i : goal.invariant-loop-i
invariant-loop-i l = (r : LevelRule) (i j : ℕ) → i < l.i → Breaks l.set.grid l.set.places l.wishes l.levels r i j → ⊥

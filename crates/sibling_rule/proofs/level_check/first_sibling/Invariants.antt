-- None of the leaves so far breaks the rule.
use Rattle.std.proofs.Common.{ℕ, ◌<◌, get_or}
use Rattle.sibling_rule.specs.BrokenRules.{BreaksSibling}
use Rattle.sibling_rule.proofs.level_check.first_sibling.Given as goal

abbrev pub invariant-loop-j : goal.invariant-loop-j
invariant-loop-j l = (k : ℕ) → k < l.j-index → BreaksSibling l.set.places l.levels l.i (get_or l.around k 0) → ⊥

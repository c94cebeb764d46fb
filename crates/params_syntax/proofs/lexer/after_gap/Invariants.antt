-- The loop over blanks and comments.
use Rattle.std.proofs.Common.{◌≡◌, length}
use Rattle.params_syntax.specs.Tokens.{skipped, after_gap}
use Rattle.params_syntax.proofs.lexer.after_gap.Given as goal

abbrev pub invariant-loop-rest : goal.invariant-loop-rest
invariant-loop-rest l = skipped l.in_comment l.rest ≡ after_gap l.text

abbrev pub decreases-loop-rest : goal.decreases-loop-rest
decreases-loop-rest l = length l.rest

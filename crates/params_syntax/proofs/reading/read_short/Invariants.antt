-- The loop over the tokens of a text.
use Rattle.std.proofs.Common.{◌≡◌, ℕ, List, length}
use Rattle.params_syntax.specs.Tokens.{after_gap}
use Rattle.params_syntax.proofs.Courses.{Course}
use Rattle.params_syntax.proofs.reading.read_short.Given as goal

abbrev pub invariant-loop-here : goal.invariant-loop-here
invariant-loop-here l = (rest : List ℕ) × (after_gap rest ≡ l.here) × Course l.text l.state rest

abbrev pub decreases-loop-here : goal.decreases-loop-here
decreases-loop-here l = length l.here

-- The loop over the digits of a number.
use Rattle.std.proofs.Common.{◌≡◌, ◌≤◌, take}
use Rattle.std.specs.Str.Parse.{digits_value}
use Rattle.params_syntax.specs.Limits.{greatest}
use Rattle.params_syntax.proofs.lexer.value_of.Given as goal

abbrev pub invariant-loop-digit : goal.invariant-loop-digit
invariant-loop-digit l = record {
  value : l.value ≡ digits_value 10 (take l.digit-index l.digits);
  low : l.value ≤ greatest;
}

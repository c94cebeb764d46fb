-- One digit more, and a value that is out of range.
use Rattle.std.proofs.Common.{◌+◌, refl, arith}
use Rattle.params_syntax.proofs.Digits.{digits_value-next, digits_value-high}
use Rattle.params_syntax.proofs.lexer.value_of.Goals as goal

pub returns-then-value-clause-high : goal.returns-then-value-clause-high
returns-then-value-clause-high c =
    let ds = c.args.digits.now in
    let i = c.loop-digit.digit-index in
    let next = digits_value-next ds i c.loop-digit.value _ (omega arith) c.requires.digits c.loop-digit.invariant.value refl in
    digits_value-high ds (i + 1) _ next (omega arith)

pub returns-then-value-gt-GREATEST-clause-high : goal.returns-then-value-gt-GREATEST-clause-high
returns-then-value-gt-GREATEST-clause-high c =
    let ds = c.args.digits.now in
    let i = c.loop-digit.digit-index in
    let next = digits_value-next ds i c.loop-digit.value _ (omega arith) c.requires.digits c.loop-digit.invariant.value c.from.ensures in
    digits_value-high ds (i + 1) _ next (omega arith)

pub loop-digit-preserved : goal.loop-digit-preserved
loop-digit-preserved c =
    let ds = c.args.digits.now in
    let i = c.loop-digit.digit-index in
    record {
      value = digits_value-next ds i c.loop-digit.value _ (omega arith) c.requires.digits c.loop-digit.invariant.value c.from.ensures;
      low = omega arith;
    }

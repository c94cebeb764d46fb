-- A word that spells a number is parsed as that number.
use Rattle.std.proofs.Common.{◌≡◌, sym, ap, ◌∙◌, arith}
use Rattle.std.specs.Prelude.{decimal}
use Rattle.std.proofs.lemmas.Bool.{false≢true}
use Rattle.std.proofs.lemmas.Fmt.{parse-decimal}
use Rattle.cello_top.proofs.word_forms.number_up_to.Goals as goal

pub returns-in_default-clause-none : goal.returns-in_default-clause-none
returns-in_default-clause-none c = λ e n small spelled.
    c.in_default.not-Ok n
    (parse-decimal 32 n c.as_str-text.result.now c.parse.result (omega (arith, small)) (omega (arith, small)) (c.as_str-text.ensures.value ∙ spelled) c.parse.ensures.value.0)

pub returns-then-number-most-clause-none : goal.returns-then-number-most-clause-none
returns-then-number-most-clause-none c = λ e n small spelled.
    let ok = parse-decimal 32 n c.as_str-text.result.now c.parse.result (omega (arith, small)) (omega (arith, small)) (c.as_str-text.ensures.value ∙ spelled) c.parse.ensures.value.0 in
    let same : c.in-Ok.number ≡ n = cc in
    absurd (omega (arith, small, same, c.if-number-most.true))

pub returns-then-not-is_decimal-clause-none : goal.returns-then-not-is_decimal-clause-none
returns-then-not-is_decimal-clause-none c = λ e n small spelled.
    let ok = parse-decimal 32 n c.as_str-text.result.now c.parse.result (omega (arith, small)) (omega (arith, small)) (c.as_str-text.ensures.value ∙ spelled) c.parse.ensures.value.0 in
    let same : c.in-Ok.number ≡ n = cc in
    let yes = c.is_decimal.ensures.decimal.1 (c.as_bytes.ensures.value ∙ c.as_str-text.ensures.value ∙ spelled ∙ ap decimal (sym same)) in
    absurd (false≢true (sym c.if-not-is_decimal.true ∙ yes))

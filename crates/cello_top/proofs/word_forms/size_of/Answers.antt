-- The spelling of 0 is that of no size.
use Rattle.std.proofs.Common.{sym, ◌∙◌, arith}
use Rattle.std.proofs.lemmas.Fmt.{decimal_injective}
use Rattle.cello_top.proofs.word_forms.size_of.Goals as goal

pub returns-then-size-lt1-clause-none : goal.returns-then-size-lt1-clause-none
returns-then-size-lt1-clause-none c = λ e n some few spelled.
    let same = decimal_injective n c.in_ok-size.size (omega (arith, few)) (omega (arith, c.if-size-lt1.true)) (sym spelled ∙ c.in_ok-size.ensures.spelled) in
    absurd (omega (arith, same, some, c.if-size-lt1.true))

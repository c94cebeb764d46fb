-- Three words, each of its form.
use Rattle.std.proofs.Common.{sym, arith}
use Rattle.std.specs.String.{string_bytes}
use Rattle.std.proofs.lemmas.Bool.{false≢true}
use Rattle.cello_top.proofs.CommandWords.{demos}
use Rattle.cello_top.proofs.words.demo_of.Goals as goal

pub returns-clause-none : goal.returns-clause-none
returns-clause-none c = (
  (λ e. absurd (false≢true (sym e))),
  (λ other. absurd (other (
    c.in_ok-seed.seed,
    c.in_ok-size.size,
    demos string_bytes c.args.words.now c.index-words-0.result c.index-words-1.result c.index-words-2.result c.in_ok-seed.seed c.in_ok-size.size
        (omega (arith, c.if-words-ne3.false)) c.index-words-0.is c.index-words-1.is c.index-words-2.is (c.is_word.ensures.same.0 c.if-not-is_word.false) c.in_ok-seed.ensures.spelled c.in_ok-seed.ensures.within
        c.in_ok-size.ensures.spelled c.in_ok-size.ensures.some c.in_ok-size.ensures.within,
  ))),
)

-- One of the three fixed words is another.
use Rattle.std.proofs.Common.{arith}
use Rattle.std.specs.String.{string_bytes}
use Rattle.std.specs.Prelude.{codes}
use Rattle.cello_top.proofs.WorkerAsking.{differs, left-false, right-false}
use Rattle.cello_top.proofs.worker_words.restart_of.Goals as goal

pub returns-then-not-is_word-clause-none : goal.returns-then-not-is_word-clause-none
returns-then-not-is_word-clause-none c = λ e.
    left-false _ _ (left-false _ _ (left-false _ _ (right-false _ _
    (differs string_bytes c.args.words.now 0 c.index-words-0.result (codes "restart") _ (omega arith) c.index-words-0.is c.is_word.ensures.same c.if-not-is_word.true))))

pub returns-then-not-is_word-2-clause-none : goal.returns-then-not-is_word-2-clause-none
returns-then-not-is_word-2-clause-none c = λ e.
    left-false _ _ (left-false _ _ (right-false _ _
    (differs string_bytes c.args.words.now c.args.workers c.index-words-workers.result (codes "--workers") _ (omega (arith, c.requires.workers, c.if-words-ne6.false)) c.index-words-workers.is c.is_word-2.ensures.same c.if-not-is_word-2.true)))

pub returns-then-not-is_word-3-clause-none : goal.returns-then-not-is_word-3-clause-none
returns-then-not-is_word-3-clause-none c = λ e.
    right-false _ _
    (differs string_bytes c.args.words.now c.args.until c.index-words-until.result (codes "--until") _ (omega (arith, c.requires.until, c.if-words-ne6.false)) c.index-words-until.is c.is_word-3.ensures.same c.if-not-is_word-3.true)

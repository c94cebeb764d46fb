-- Words outside the set, a command on one thread, and one by workers.
use Rattle.std.proofs.Common.{List, ℕ, map, inl, inr, sym, subst, ◌∙◌}
use Rattle.std.specs.String.{string_bytes}
use Rattle.run_core.specs.PlainCounts.{HandlesPlainly}
use Rattle.cello_top.specs.Counts.{HandlesWithin}
use Rattle.cello_top.specs.Words.{IsDemo, IsResume}
use Rattle.cello_top.specs.WorkerWords.{plain_words}
use Rattle.cello_top.proofs.Counted.{handles-plainly}
use Rattle.cello_top.proofs.Ends.{other-handled, plain-handled, usage-answer}
use Rattle.cello_top.proofs.PlainWords.{restart-plain}
use Rattle.cello_top.proofs.WorkersHandled.{run-handled, words-handled}
use Rattle.cello_top.proofs.entry.enter.Goals as goal

pub returns-in-Usage-clause-answer : goal.returns-in-Usage-clause-answer
returns-in-Usage-clause-answer g c = usage-answer _ _ _ _ c.refused.result c.in-Usage.ensures.asked c.refused.ensures.fault

-- ---- on one thread

pub returns-in-Plain-clause-handled : goal.returns-in-Plain-clause-handled
returns-in-Plain-clause-handled g c =
    words-handled HandlesPlainly (map string_bytes c.args.words.now) (plain_words (map string_bytes c.args.words.now)) _ c.obey.result
    (λ solo. c.in-Plain.ensures.asked.1 ∙ solo) (plain-handled _ _ c.obey.result c.obey.ensures.handled)

pub returns-in-Plain-clause-handled_resume : goal.returns-in-Plain-clause-handled_resume
returns-in-Plain-clause-handled_resume g c = λ past name file until s told is at reads well.
    handles-plainly _ _ (c.obey.ensures.handled_resume past name file until s told
    (subst (λ (l : List (List ℕ)). IsResume l name until) (sym c.in-Plain.ensures.asked.1) is) at reads well)

-- ---- by workers

pub returns-in-Workers-clause-handled : goal.returns-in-Workers-clause-handled
returns-in-Workers-clause-handled g c =
    other-handled HandlesPlainly _ _ c.obey_by_workers.result (λ solo. c.in-Workers.ensures.asked.1 (inl (inl solo)))

pub returns-in-Workers-clause-handled_run : goal.returns-in-Workers-clause-handled_run
returns-in-Workers-clause-handled_run g c =
    run-handled HandlesWithin (map string_bytes c.args.words.now) _ c.obey_by_workers.result c.obey_by_workers.ensures.handled

pub returns-in-Workers-clause-handled_restart : goal.returns-in-Workers-clause-handled_restart
returns-in-Workers-clause-handled_restart g c = λ past name file until workers s told restart at reads well.
    c.obey_by_workers.ensures.handled_resume past name file until s told (restart-plain _ name until workers restart) at reads well

-- ---- `demo`

pub returns-in-Plain-clause-handled_demo : goal.returns-in-Plain-clause-handled_demo
returns-in-Plain-clause-handled_demo g c = λ seed size p is has well.
    handles-plainly _ _ (c.obey.ensures.handled_demo seed size p
    (subst (λ (l : List (List ℕ)). IsDemo l seed size) (sym c.in-Plain.ensures.asked.1) is) has well)

pub returns-in-Workers-clause-handled_demo : goal.returns-in-Workers-clause-handled_demo
returns-in-Workers-clause-handled_demo g c = λ seed size p is has well. absurd (c.in-Workers.ensures.asked.1 (inr (inr (seed, size, is))))

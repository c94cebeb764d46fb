-- Words outside the set, and each command.
use Rattle.std.proofs.Common.{refl, inl, inr}
use Rattle.run_core.specs.PlainCounts.{HandlesPlainly}
use Rattle.cello_top.proofs.Counted.{handles-plainly}
use Rattle.cello_top.proofs.Ends.{plain-handled, usage-answer, none-handled, same-only}
use Rattle.cello_top.proofs.one_thread.solo.Goals as goal

-- ---- words outside the set

pub returns-in-None-clause-answer : goal.returns-in-None-clause-answer
returns-in-None-clause-answer g c = usage-answer _ _ _ _ c.refused.result (c.in-None.ensures.none.0 refl) c.refused.ensures.fault

pub returns-in-None-clause-unmade : goal.returns-in-None-clause-unmade
returns-in-None-clause-unmade g c = λ not. same-only _

pub returns-in-None-clause-handled : goal.returns-in-None-clause-handled
returns-in-None-clause-handled g c = none-handled HandlesPlainly _ _ c.refused.result _ c.refused.ensures.fault

pub returns-in-None-clause-complete_resume : goal.returns-in-None-clause-complete_resume
returns-in-None-clause-complete_resume g c = λ past name file until s told is at reads free no_fetch no_sink no_shelf. absurd (c.in-None.ensures.none.0 refl (inr (inl (name, until, is))))

-- ---- a command

pub returns-in-Some-clause-handled : goal.returns-in-Some-clause-handled
returns-in-Some-clause-handled g c = plain-handled _ _ c.obey.result c.obey.ensures.handled

pub returns-in-Some-clause-handled_resume : goal.returns-in-Some-clause-handled_resume
returns-in-Some-clause-handled_resume g c = λ past name file until s told is at reads well.
    handles-plainly _ _ (c.obey.ensures.handled_resume past name file until s told is at reads well)

pub returns-in-Some-clause-handled_demo : goal.returns-in-Some-clause-handled_demo
returns-in-Some-clause-handled_demo g c = λ seed size p is has well. handles-plainly _ _ (c.obey.ensures.handled_demo seed size p is has well)

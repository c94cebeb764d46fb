-- Each command that ends well, and each that ends with a fault.
use Rattle.std.proofs.Common.{Err, refl, ap, subst, sym, inl, inr}
use Rattle.cello_top.specs.Counts.{HandlesBy}
use Rattle.cello_top.specs.Faults.{CameToWrite}
use Rattle.cello_top.proofs.CommandEnds.{of_command}
use Rattle.cello_top.proofs.CommandWords.{as_demo, as_resume, as_text}
use Rattle.cello_top.proofs.DemoCalls.{demo-answer, demo-complete, demo-handled, demo-other, demo-part, demo-unanswered, demo-usage, demo-wrote}
use Rattle.cello_top.proofs.Ends.{check-command, not-failed, none-handled, done-answer, done-handled, done-handled_check, ends-answer, ends-part, ends-read, ends-complete, ends-complete_check, ends-no_file, ends-usage, keeps-same, other-complete, other-complete_check, other-handled, text_or_resume, unmade-same}
use Rattle.cello_top.proofs.OneAnswer.{demo_or_resume, resume_or_source}
use Rattle.cello_top.proofs.ResumeEnds.{resume-absent, resume-answer, resume-complete, resume-file, resume-part, resume-usage, resumed-answer, resumed-handled, well-usage, well-whole}
use Rattle.cello_top.proofs.obeying.obey.Goals as goal

-- ---- a command that reads the source

pub returns-in-Ok-clause-answer : goal.returns-in-Ok-clause-answer
returns-in-Ok-clause-answer g c =
    done-answer _ _ _ _ _ _ (g.H.Shelf.tells c.args.shelf.now).past (of_command c.in-Text.text g.W.AskedWords.words (as_text c.args.command c.in-Text.text g.W.AskedWords.words c.in-Text.is c.requires.of)) c.done.result c.done.ensures.fault (c.in-Ok.ensures.done _ (as_text c.args.command c.in-Text.text g.W.AskedWords.words c.in-Text.is c.requires.of))

pub returns-in-Ok-clause-usage : goal.returns-in-Ok-clause-usage
returns-in-Ok-clause-usage g c = well-usage g.W.AskedWords.words c.done.result c.done.ensures.fault (inl (of_command c.in-Text.text g.W.AskedWords.words (as_text c.args.command c.in-Text.text g.W.AskedWords.words c.in-Text.is c.requires.of)))

pub returns-in-Ok-clause-unread : goal.returns-in-Ok-clause-unread
returns-in-Ok-clause-unread g c = λ other. absurd (other (of_command c.in-Text.text g.W.AskedWords.words (as_text c.args.command c.in-Text.text g.W.AskedWords.words c.in-Text.is c.requires.of)))

pub returns-in-Ok-clause-handled : goal.returns-in-Ok-clause-handled
returns-in-Ok-clause-handled g c = done-handled g.C.Crew.counts _ _ _ _ c.in-Text.text (as_text c.args.command c.in-Text.text g.W.AskedWords.words c.in-Text.is c.requires.of) c.in-Ok.handled c.done.result c.done.ensures.handled c.in-Ok.ensures.handled

pub returns-in-Ok-clause-handled_check : goal.returns-in-Ok-clause-handled_check
returns-in-Ok-clause-handled_check g c =
    done-handled_check g.C.Crew.counts _ _ _ _ c.in-Text.text (as_text c.args.command c.in-Text.text g.W.AskedWords.words c.in-Text.is c.requires.of) c.in-Ok.handled c.done.result c.done.ensures.handled c.in-Ok.ensures.handled

pub returns-in-Ok-clause-handled_resume : goal.returns-in-Ok-clause-handled_resume
returns-in-Ok-clause-handled_resume g c = λ past name file until s told is at reads well. absurd (resume_or_source g.W.AskedWords.words name until is (of_command c.in-Text.text g.W.AskedWords.words (as_text c.args.command c.in-Text.text g.W.AskedWords.words c.in-Text.is c.requires.of)))

pub returns-in-Ok-clause-complete_resume : goal.returns-in-Ok-clause-complete_resume
returns-in-Ok-clause-complete_resume g c = λ past name file until s told is at reads free no_fetch no_sink no_shelf. inl c.done.ensures.fault

pub returns-in-Ok-clause-past : goal.returns-in-Ok-clause-past
returns-in-Ok-clause-past g c = keeps-same _ _ c.in-Ok.ensures.devices.past

pub returns-in-Err-clause-answer : goal.returns-in-Err-clause-answer
returns-in-Err-clause-answer g c =
    ends-answer _ _ _ _ _ _ (g.H.Shelf.tells c.args.shelf.now).past (of_command c.in-Text.text g.W.AskedWords.words (as_text c.args.command c.in-Text.text g.W.AskedWords.words c.in-Text.is c.requires.of)) c.in-Err.fault c.refused.result c.refused.ensures.fault
    (c.in-Err.ensures.ended _ (as_text c.args.command c.in-Text.text g.W.AskedWords.words c.in-Text.is c.requires.of))

pub returns-in-Err-clause-part : goal.returns-in-Err-clause-part
returns-in-Err-clause-part g c =
    ends-part _ _ _ _ _ _ (g.H.Shelf.tells c.args.shelf.now).past (of_command c.in-Text.text g.W.AskedWords.words (as_text c.args.command c.in-Text.text g.W.AskedWords.words c.in-Text.is c.requires.of)) c.in-Err.fault c.refused.result c.refused.ensures.fault
    (c.in-Err.ensures.ended _ (as_text c.args.command c.in-Text.text g.W.AskedWords.words c.in-Text.is c.requires.of))

pub returns-in-Err-clause-usage : goal.returns-in-Err-clause-usage
returns-in-Err-clause-usage g c =
    ends-usage _ _ _ _ _ _ (g.H.Shelf.tells c.args.shelf.now).past (of_command c.in-Text.text g.W.AskedWords.words (as_text c.args.command c.in-Text.text g.W.AskedWords.words c.in-Text.is c.requires.of)) c.in-Err.fault c.refused.result c.refused.ensures.fault
    (c.in-Err.ensures.ended _ (as_text c.args.command c.in-Text.text g.W.AskedWords.words c.in-Text.is c.requires.of))

pub returns-in-Err-clause-unread : goal.returns-in-Err-clause-unread
returns-in-Err-clause-unread g c = λ other. absurd (other (of_command c.in-Text.text g.W.AskedWords.words (as_text c.args.command c.in-Text.text g.W.AskedWords.words c.in-Text.is c.requires.of)))

pub returns-in-Err-clause-unmade : goal.returns-in-Err-clause-unmade
returns-in-Err-clause-unmade g c = λ not. unmade-same g.H.Shelf.tells _ _ (c.in-Err.ensures.unfiled (λ wrote. not (subst CameToWrite (sym c.refused.ensures.fault) wrote)))

pub returns-in-Err-clause-read_out : goal.returns-in-Err-clause-read_out
returns-in-Err-clause-read_out g c =
    ends-read _ _ _ _ _ _ (g.H.Shelf.tells c.args.shelf.now).past (of_command c.in-Text.text g.W.AskedWords.words (as_text c.args.command c.in-Text.text g.W.AskedWords.words c.in-Text.is c.requires.of)) c.in-Err.fault c.refused.result c.refused.ensures.fault
    (c.in-Err.ensures.ended _ (as_text c.args.command c.in-Text.text g.W.AskedWords.words c.in-Text.is c.requires.of))

pub returns-in-Err-clause-fetch_cause : goal.returns-in-Err-clause-fetch_cause
returns-in-Err-clause-fetch_cause g c = λ resume. absurd (text_or_resume g.W.AskedWords.words (of_command c.in-Text.text g.W.AskedWords.words (as_text c.args.command c.in-Text.text g.W.AskedWords.words c.in-Text.is c.requires.of)) resume)

pub returns-in-Err-clause-absent_cause : goal.returns-in-Err-clause-absent_cause
returns-in-Err-clause-absent_cause g c = λ name e.
    absurd (ends-no_file _ _ _ _ _ _ (g.H.Shelf.tells c.args.shelf.now).past (of_command c.in-Text.text g.W.AskedWords.words (as_text c.args.command c.in-Text.text g.W.AskedWords.words c.in-Text.is c.requires.of)) c.in-Err.fault c.refused.result c.refused.ensures.fault
    (c.in-Err.ensures.ended _ (as_text c.args.command c.in-Text.text g.W.AskedWords.words c.in-Text.is c.requires.of)) _ e refl)

pub returns-in-Err-clause-absent_name : goal.returns-in-Err-clause-absent_name
returns-in-Err-clause-absent_name g c = λ name e.
    absurd (ends-no_file _ _ _ _ _ _ (g.H.Shelf.tells c.args.shelf.now).past (of_command c.in-Text.text g.W.AskedWords.words (as_text c.args.command c.in-Text.text g.W.AskedWords.words c.in-Text.is c.requires.of)) c.in-Err.fault c.refused.result c.refused.ensures.fault
    (c.in-Err.ensures.ended _ (as_text c.args.command c.in-Text.text g.W.AskedWords.words c.in-Text.is c.requires.of)) _ e refl)

pub returns-in-Err-clause-file_fault : goal.returns-in-Err-clause-file_fault
returns-in-Err-clause-file_fault g c = λ fault e.
    absurd (ends-no_file _ _ _ _ _ _ (g.H.Shelf.tells c.args.shelf.now).past (of_command c.in-Text.text g.W.AskedWords.words (as_text c.args.command c.in-Text.text g.W.AskedWords.words c.in-Text.is c.requires.of)) c.in-Err.fault c.refused.result c.refused.ensures.fault
    (c.in-Err.ensures.ended _ (as_text c.args.command c.in-Text.text g.W.AskedWords.words c.in-Text.is c.requires.of)) _ e refl)

pub returns-in-Err-clause-complete : goal.returns-in-Err-clause-complete
returns-in-Err-clause-complete g c =
    ends-complete _ _ _ _ _ _ (g.H.Shelf.tells c.args.shelf.now).past (of_command c.in-Text.text g.W.AskedWords.words (as_text c.args.command c.in-Text.text g.W.AskedWords.words c.in-Text.is c.requires.of)) c.in-Err.fault c.refused.result c.refused.ensures.fault _ _ _
    (λ e. c.in-Err.ensures.read_cause (ap Err e)) (λ e. c.in-Err.ensures.devices.cause (ap Err e)) (c.in-Err.ensures.ended _ (as_text c.args.command c.in-Text.text g.W.AskedWords.words c.in-Text.is c.requires.of))

pub returns-in-Err-clause-complete_check : goal.returns-in-Err-clause-complete_check
returns-in-Err-clause-complete_check g c =
    ends-complete_check _ _ _ _ _ _ (g.H.Shelf.tells c.args.shelf.now).past (of_command c.in-Text.text g.W.AskedWords.words (as_text c.args.command c.in-Text.text g.W.AskedWords.words c.in-Text.is c.requires.of)) c.in-Err.fault c.refused.result c.refused.ensures.fault _ _
    (λ e. c.in-Err.ensures.read_cause (ap Err e))
    (λ check e. c.in-Err.ensures.check_cause (check-command c.in-Text.text _ (as_text c.args.command c.in-Text.text g.W.AskedWords.words c.in-Text.is c.requires.of) check) (ap Err e))
    (c.in-Err.ensures.ended _ (as_text c.args.command c.in-Text.text g.W.AskedWords.words c.in-Text.is c.requires.of))

pub returns-in-Err-clause-complete_resume : goal.returns-in-Err-clause-complete_resume
returns-in-Err-clause-complete_resume g c = λ past name file until s told is at reads free no_fetch no_sink no_shelf.
    absurd (resume_or_source g.W.AskedWords.words name until is (of_command c.in-Text.text g.W.AskedWords.words (as_text c.args.command c.in-Text.text g.W.AskedWords.words c.in-Text.is c.requires.of)))

pub returns-in-Err-clause-handled : goal.returns-in-Err-clause-handled
returns-in-Err-clause-handled g c = none-handled (HandlesBy g.C.Crew.counts) _ _ c.refused.result _ c.refused.ensures.fault

pub returns-in-Err-clause-idle : goal.returns-in-Err-clause-idle
returns-in-Err-clause-idle g c = λ well.
    c.in-Err.ensures.devices.idle (not-failed c.in-Err.fault c.refused.result (Err c.in-Err.fault) refl c.refused.ensures.fault well)

pub returns-in-Err-clause-past : goal.returns-in-Err-clause-past
returns-in-Err-clause-past g c = keeps-same _ _ c.in-Err.ensures.devices.past

-- ---- `resume`

pub returns-in-Ok-resume-clause-answer : goal.returns-in-Ok-resume-clause-answer
returns-in-Ok-resume-clause-answer g c = λ bytes past input settled.
    resumed-answer g.W.AskedWords.words _ _ (as_resume c.args.command _ _ g.W.AskedWords.words c.in-Resume.is c.requires.of) (g.H.Shelf.tells c.args.shelf.now) _ _ _ bytes past input _ c.in-Ok-resume.handled c.done-in-Ok-resume.result c.done-in-Ok-resume.ensures.fault
    c.in-Ok-resume.ensures.done settled

pub returns-in-Ok-resume-clause-part : goal.returns-in-Ok-resume-clause-part
returns-in-Ok-resume-clause-part g c = λ bytes past input hold cut. absurd (well-whole c.done-in-Ok-resume.result c.done-in-Ok-resume.ensures.fault cut)

pub returns-in-Ok-resume-clause-unmade : goal.returns-in-Ok-resume-clause-unmade
returns-in-Ok-resume-clause-unmade g c = λ not. absurd (not (subst CameToWrite (sym c.done-in-Ok-resume.ensures.fault) tt))

pub returns-in-Ok-resume-clause-complete : goal.returns-in-Ok-resume-clause-complete
returns-in-Ok-resume-clause-complete g c = other-complete _ _ _ _ _ c.done-in-Ok-resume.result (λ solo. resume_or_source g.W.AskedWords.words _ _ (as_resume c.args.command _ _ g.W.AskedWords.words c.in-Resume.is c.requires.of) (inl solo))

pub returns-in-Ok-resume-clause-complete_check : goal.returns-in-Ok-resume-clause-complete_check
returns-in-Ok-resume-clause-complete_check g c = other-complete_check _ _ _ _ c.done-in-Ok-resume.result (λ check. resume_or_source g.W.AskedWords.words _ _ (as_resume c.args.command _ _ g.W.AskedWords.words c.in-Resume.is c.requires.of) (inr check))

pub returns-in-Ok-resume-clause-complete_resume : goal.returns-in-Ok-resume-clause-complete_resume
returns-in-Ok-resume-clause-complete_resume g c = λ past name file until s told is at reads free no_fetch no_sink no_shelf. inl c.done-in-Ok-resume.ensures.fault

pub returns-in-Ok-resume-clause-usage : goal.returns-in-Ok-resume-clause-usage
returns-in-Ok-resume-clause-usage g c = well-usage g.W.AskedWords.words c.done-in-Ok-resume.result c.done-in-Ok-resume.ensures.fault (inr (inl (_, _, (as_resume c.args.command _ _ g.W.AskedWords.words c.in-Resume.is c.requires.of))))

pub returns-in-Ok-resume-clause-read_out : goal.returns-in-Ok-resume-clause-read_out
returns-in-Ok-resume-clause-read_out g c = λ source saw. absurd (resume_or_source g.W.AskedWords.words _ _ (as_resume c.args.command _ _ g.W.AskedWords.words c.in-Resume.is c.requires.of) source)

pub returns-in-Ok-resume-clause-check_files : goal.returns-in-Ok-resume-clause-check_files
returns-in-Ok-resume-clause-check_files g c = λ check. absurd (resume_or_source g.W.AskedWords.words _ _ (as_resume c.args.command _ _ g.W.AskedWords.words c.in-Resume.is c.requires.of) (inr check))

pub returns-in-Ok-resume-clause-handled : goal.returns-in-Ok-resume-clause-handled
returns-in-Ok-resume-clause-handled g c = other-handled (HandlesBy g.C.Crew.counts) _ _ c.done-in-Ok-resume.result (λ solo. resume_or_source g.W.AskedWords.words _ _ (as_resume c.args.command _ _ g.W.AskedWords.words c.in-Resume.is c.requires.of) (inl solo))

pub returns-in-Ok-resume-clause-handled_check : goal.returns-in-Ok-resume-clause-handled_check
returns-in-Ok-resume-clause-handled_check g c = λ check. absurd (resume_or_source g.W.AskedWords.words _ _ (as_resume c.args.command _ _ g.W.AskedWords.words c.in-Resume.is c.requires.of) (inr check))

pub returns-in-Ok-resume-clause-handled_resume : goal.returns-in-Ok-resume-clause-handled_resume
returns-in-Ok-resume-clause-handled_resume g c = λ past name file until s told is at reads well.
    resumed-handled g.W.AskedWords.words _ _ (as_resume c.args.command _ _ g.W.AskedWords.words c.in-Resume.is c.requires.of) (g.H.Shelf.tells c.args.shelf.now) _ _ c.one_reading.ensures.one past told name file until s is at reads g.C.Crew.counts c.in-Ok-resume.handled
    c.done-in-Ok-resume.result c.done-in-Ok-resume.ensures.handled c.in-Ok-resume.ensures.done well

pub returns-in-Ok-resume-clause-same_past : goal.returns-in-Ok-resume-clause-same_past
returns-in-Ok-resume-clause-same_past g c = λ other. absurd (other (_, _, (as_resume c.args.command _ _ g.W.AskedWords.words c.in-Resume.is c.requires.of)))

pub returns-in-Err-resume-clause-answer : goal.returns-in-Err-resume-clause-answer
returns-in-Err-resume-clause-answer g c = λ bytes past input settled.
    resume-answer g.W.AskedWords.words _ _ (as_resume c.args.command _ _ g.W.AskedWords.words c.in-Resume.is c.requires.of) (g.H.Shelf.tells c.args.shelf.now) _ _ _ bytes past input c.in-Err-resume.fault c.refused-in-Err-resume.result c.refused-in-Err-resume.ensures.fault
    c.in-Err-resume.ensures.ended settled

pub returns-in-Err-resume-clause-part : goal.returns-in-Err-resume-clause-part
returns-in-Err-resume-clause-part g c = λ bytes past input hold cut.
    resume-part g.W.AskedWords.words _ _ (as_resume c.args.command _ _ g.W.AskedWords.words c.in-Resume.is c.requires.of) (g.H.Shelf.tells c.args.shelf.now) _ _ _ bytes past input (c.answer_exists.ensures.exists g.W.AskedWords.words bytes past) c.in-Err-resume.fault
    c.in-Err-resume.ensures.ended hold

pub returns-in-Err-resume-clause-usage : goal.returns-in-Err-resume-clause-usage
returns-in-Err-resume-clause-usage g c =
    resume-usage g.W.AskedWords.words _ _ (as_resume c.args.command _ _ g.W.AskedWords.words c.in-Resume.is c.requires.of) (g.H.Shelf.tells c.args.shelf.now) _ _ c.in-Err-resume.fault c.refused-in-Err-resume.result c.refused-in-Err-resume.ensures.fault
    c.in-Err-resume.ensures.ended

pub returns-in-Err-resume-clause-unfiled : goal.returns-in-Err-resume-clause-unfiled
returns-in-Err-resume-clause-unfiled g c = λ other. absurd (other (_, _, (as_resume c.args.command _ _ g.W.AskedWords.words c.in-Resume.is c.requires.of)))

pub returns-in-Err-resume-clause-unmade : goal.returns-in-Err-resume-clause-unmade
returns-in-Err-resume-clause-unmade g c = λ not.
    c.in-Err-resume.ensures.unmade (λ wrote. not (subst CameToWrite (sym c.refused-in-Err-resume.ensures.fault) wrote))

pub returns-in-Err-resume-clause-read_out : goal.returns-in-Err-resume-clause-read_out
returns-in-Err-resume-clause-read_out g c = λ source saw. absurd (resume_or_source g.W.AskedWords.words _ _ (as_resume c.args.command _ _ g.W.AskedWords.words c.in-Resume.is c.requires.of) source)

pub returns-in-Err-resume-clause-check_files : goal.returns-in-Err-resume-clause-check_files
returns-in-Err-resume-clause-check_files g c = λ check. absurd (resume_or_source g.W.AskedWords.words _ _ (as_resume c.args.command _ _ g.W.AskedWords.words c.in-Resume.is c.requires.of) (inr check))

pub returns-in-Err-resume-clause-read_cause : goal.returns-in-Err-resume-clause-read_cause
returns-in-Err-resume-clause-read_cause g c = λ other. absurd (other (_, _, (as_resume c.args.command _ _ g.W.AskedWords.words c.in-Resume.is c.requires.of)))

pub returns-in-Err-resume-clause-check_cause : goal.returns-in-Err-resume-clause-check_cause
returns-in-Err-resume-clause-check_cause g c = λ check. absurd (resume_or_source g.W.AskedWords.words _ _ (as_resume c.args.command _ _ g.W.AskedWords.words c.in-Resume.is c.requires.of) (inr check))

pub returns-in-Err-resume-clause-absent_name : goal.returns-in-Err-resume-clause-absent_name
returns-in-Err-resume-clause-absent_name g c =
    resume-absent g.W.AskedWords.words _ _ (as_resume c.args.command _ _ g.W.AskedWords.words c.in-Resume.is c.requires.of) (g.H.Shelf.tells c.args.shelf.now) _ _ c.in-Err-resume.fault c.refused-in-Err-resume.result c.refused-in-Err-resume.ensures.fault
    c.in-Err-resume.ensures.ended

pub returns-in-Err-resume-clause-file_fault : goal.returns-in-Err-resume-clause-file_fault
returns-in-Err-resume-clause-file_fault g c =
    resume-file g.W.AskedWords.words _ _ (as_resume c.args.command _ _ g.W.AskedWords.words c.in-Resume.is c.requires.of) (g.H.Shelf.tells c.args.shelf.now) _ _ c.in-Err-resume.fault c.refused-in-Err-resume.result c.refused-in-Err-resume.ensures.fault
    c.in-Err-resume.ensures.ended

pub returns-in-Err-resume-clause-complete : goal.returns-in-Err-resume-clause-complete
returns-in-Err-resume-clause-complete g c = other-complete _ _ _ _ _ c.refused-in-Err-resume.result (λ solo. resume_or_source g.W.AskedWords.words _ _ (as_resume c.args.command _ _ g.W.AskedWords.words c.in-Resume.is c.requires.of) (inl solo))

pub returns-in-Err-resume-clause-complete_check : goal.returns-in-Err-resume-clause-complete_check
returns-in-Err-resume-clause-complete_check g c = other-complete_check _ _ _ _ c.refused-in-Err-resume.result (λ check. resume_or_source g.W.AskedWords.words _ _ (as_resume c.args.command _ _ g.W.AskedWords.words c.in-Resume.is c.requires.of) (inr check))

pub returns-in-Err-resume-clause-complete_resume : goal.returns-in-Err-resume-clause-complete_resume
returns-in-Err-resume-clause-complete_resume g c = λ past name file until s told is at reads.
    resume-complete g.W.AskedWords.words _ _ (as_resume c.args.command _ _ g.W.AskedWords.words c.in-Resume.is c.requires.of) (g.H.Shelf.tells c.args.shelf.now) _ _ c.one_reading.ensures.one past told name file until s is at reads _ _ _ c.in-Err-resume.fault
    c.refused-in-Err-resume.result c.refused-in-Err-resume.ensures.fault (λ e. c.in-Err-resume.ensures.fetch_cause (ap Err e))
    (λ e. c.in-Err-resume.ensures.devices.cause (ap Err e)) c.in-Err-resume.ensures.ended

pub returns-in-Err-resume-clause-handled : goal.returns-in-Err-resume-clause-handled
returns-in-Err-resume-clause-handled g c = none-handled (HandlesBy g.C.Crew.counts) _ _ c.refused-in-Err-resume.result _ c.refused-in-Err-resume.ensures.fault

pub returns-in-Err-resume-clause-idle : goal.returns-in-Err-resume-clause-idle
returns-in-Err-resume-clause-idle g c = λ well.
    c.in-Err-resume.ensures.devices.idle (not-failed c.in-Err-resume.fault c.refused-in-Err-resume.result (Err c.in-Err-resume.fault) refl c.refused-in-Err-resume.ensures.fault well)

pub returns-in-Err-resume-clause-same_past : goal.returns-in-Err-resume-clause-same_past
returns-in-Err-resume-clause-same_past g c = λ other. absurd (other (_, _, (as_resume c.args.command _ _ g.W.AskedWords.words c.in-Resume.is c.requires.of)))

-- ---- `demo`

pub returns-in-Ok-demonstrate-clause-answer : goal.returns-in-Ok-demonstrate-clause-answer
returns-in-Ok-demonstrate-clause-answer g c = λ bytes past input settled.
    demo-answer g.W.AskedWords.words _ _ (as_demo c.args.command _ _ g.W.AskedWords.words c.in-Demo.is c.requires.of) _ _ g.C.Crew.counts c.in-Ok-demonstrate.handled c.done-in-Ok-demonstrate.result c.done-in-Ok-demonstrate.ensures.fault
    (c.in-Ok-demonstrate.ensures.done (g.H.Shelf.tells c.args.shelf.now).written) bytes past

pub returns-in-Ok-demonstrate-clause-complete_resume : goal.returns-in-Ok-demonstrate-clause-complete_resume
returns-in-Ok-demonstrate-clause-complete_resume g c = λ past name file until s told is at reads free no_fetch no_sink no_shelf. inl c.done-in-Ok-demonstrate.ensures.fault

pub returns-in-Ok-demonstrate-clause-handled_demo : goal.returns-in-Ok-demonstrate-clause-handled_demo
returns-in-Ok-demonstrate-clause-handled_demo g c = λ seed size p is has well.
    demo-handled g.W.AskedWords.words _ _ (as_demo c.args.command _ _ g.W.AskedWords.words c.in-Demo.is c.requires.of) _ _ g.C.Crew.counts c.in-Ok-demonstrate.handled c.done-in-Ok-demonstrate.result c.done-in-Ok-demonstrate.ensures.handled
    (c.in-Ok-demonstrate.ensures.done (g.H.Shelf.tells c.args.shelf.now).written) seed size p is has

pub returns-in-Err-demonstrate-clause-answer : goal.returns-in-Err-demonstrate-clause-answer
returns-in-Err-demonstrate-clause-answer g c = λ bytes past input settled. absurd (demo-unanswered g.W.AskedWords.words _ _ (as_demo c.args.command _ _ g.W.AskedWords.words c.in-Demo.is c.requires.of) _ _ c.in-Err-demonstrate.fault c.refused-in-Err-demonstrate.result c.refused-in-Err-demonstrate.ensures.fault (c.in-Err-demonstrate.ensures.ended (g.H.Shelf.tells c.args.shelf.now).written) settled)

pub returns-in-Err-demonstrate-clause-part : goal.returns-in-Err-demonstrate-clause-part
returns-in-Err-demonstrate-clause-part g c = λ bytes past input hold cut.
    demo-part g.W.AskedWords.words _ _ (as_demo c.args.command _ _ g.W.AskedWords.words c.in-Demo.is c.requires.of) _ _ c.each_demo_has_a_summary.ensures.exists c.in-Err-demonstrate.fault (c.in-Err-demonstrate.ensures.ended (g.H.Shelf.tells c.args.shelf.now).written) bytes past

pub returns-in-Err-demonstrate-clause-usage : goal.returns-in-Err-demonstrate-clause-usage
returns-in-Err-demonstrate-clause-usage g c = demo-usage g.W.AskedWords.words _ _ (as_demo c.args.command _ _ g.W.AskedWords.words c.in-Demo.is c.requires.of) _ _ c.in-Err-demonstrate.fault c.refused-in-Err-demonstrate.result c.refused-in-Err-demonstrate.ensures.fault (c.in-Err-demonstrate.ensures.ended (g.H.Shelf.tells c.args.shelf.now).written)

pub returns-in-Err-demonstrate-clause-unwritten : goal.returns-in-Err-demonstrate-clause-unwritten
returns-in-Err-demonstrate-clause-unwritten g c = λ not. absurd (not (demo-wrote g.W.AskedWords.words _ _ (as_demo c.args.command _ _ g.W.AskedWords.words c.in-Demo.is c.requires.of) _ _ c.in-Err-demonstrate.fault c.refused-in-Err-demonstrate.result c.refused-in-Err-demonstrate.ensures.fault (c.in-Err-demonstrate.ensures.ended (g.H.Shelf.tells c.args.shelf.now).written)))

pub returns-in-Err-demonstrate-clause-read_cause : goal.returns-in-Err-demonstrate-clause-read_cause
returns-in-Err-demonstrate-clause-read_cause g c = λ other e. absurd (demo-other g.W.AskedWords.words _ _ (as_demo c.args.command _ _ g.W.AskedWords.words c.in-Demo.is c.requires.of) _ _ c.in-Err-demonstrate.fault c.refused-in-Err-demonstrate.result c.refused-in-Err-demonstrate.ensures.fault (c.in-Err-demonstrate.ensures.ended (g.H.Shelf.tells c.args.shelf.now).written) _ e (λ h. cc) (λ h. cc))

pub returns-in-Err-demonstrate-clause-absent_cause : goal.returns-in-Err-demonstrate-clause-absent_cause
returns-in-Err-demonstrate-clause-absent_cause g c = λ name e. absurd (demo-other g.W.AskedWords.words _ _ (as_demo c.args.command _ _ g.W.AskedWords.words c.in-Demo.is c.requires.of) _ _ c.in-Err-demonstrate.fault c.refused-in-Err-demonstrate.result c.refused-in-Err-demonstrate.ensures.fault (c.in-Err-demonstrate.ensures.ended (g.H.Shelf.tells c.args.shelf.now).written) _ e (λ h. cc) (λ h. cc))

pub returns-in-Err-demonstrate-clause-absent_name : goal.returns-in-Err-demonstrate-clause-absent_name
returns-in-Err-demonstrate-clause-absent_name g c = λ name e. absurd (demo-other g.W.AskedWords.words _ _ (as_demo c.args.command _ _ g.W.AskedWords.words c.in-Demo.is c.requires.of) _ _ c.in-Err-demonstrate.fault c.refused-in-Err-demonstrate.result c.refused-in-Err-demonstrate.ensures.fault (c.in-Err-demonstrate.ensures.ended (g.H.Shelf.tells c.args.shelf.now).written) _ e (λ h. cc) (λ h. cc))

pub returns-in-Err-demonstrate-clause-file_fault : goal.returns-in-Err-demonstrate-clause-file_fault
returns-in-Err-demonstrate-clause-file_fault g c = λ fault e. absurd (demo-other g.W.AskedWords.words _ _ (as_demo c.args.command _ _ g.W.AskedWords.words c.in-Demo.is c.requires.of) _ _ c.in-Err-demonstrate.fault c.refused-in-Err-demonstrate.result c.refused-in-Err-demonstrate.ensures.fault (c.in-Err-demonstrate.ensures.ended (g.H.Shelf.tells c.args.shelf.now).written) _ e (λ h. cc) (λ h. cc))

pub returns-in-Err-demonstrate-clause-complete_resume : goal.returns-in-Err-demonstrate-clause-complete_resume
returns-in-Err-demonstrate-clause-complete_resume g c = λ past name file until s told is at reads free no_fetch no_sink no_shelf.
    absurd (demo_or_resume g.W.AskedWords.words _ _ name until (as_demo c.args.command _ _ g.W.AskedWords.words c.in-Demo.is c.requires.of) is)

pub returns-in-Err-demonstrate-clause-complete_demo : goal.returns-in-Err-demonstrate-clause-complete_demo
returns-in-Err-demonstrate-clause-complete_demo g c = λ some. demo-complete g.W.AskedWords.words _ _ (as_demo c.args.command _ _ g.W.AskedWords.words c.in-Demo.is c.requires.of) _ _ c.in-Err-demonstrate.fault c.refused-in-Err-demonstrate.result c.refused-in-Err-demonstrate.ensures.fault (c.in-Err-demonstrate.ensures.ended (g.H.Shelf.tells c.args.shelf.now).written) _ (λ e. c.in-Err-demonstrate.ensures.write_cause (ap Err e))

-- How a call of `solo` ends, from how a command that reads the source ends.
use Rattle.std.proofs.Common.{◌≡◌, ℕ, arith, Bool, List, take, Option, Some, None, Result, Err, refl, sym, ap, subst, ◌∙◌, ◌⊎◌, inl, inr}
use Rattle.std.specs.Prelude.{◌↔◌, IfSome, T}
use Rattle.std.proofs.lemmas.Option.{same_Some, none-some}
use Rattle.cello_io.specs.Files.{PastFiles, SamePast, ShelfTells}
use Rattle.params_check.specs.Parameters.{Parameters}
use Rattle.adapt_core.specs.Cells.{AdaptProblem}
use Rattle.run_core.specs.Courses.{Course, whole}
use Rattle.run_core.specs.PlainCounts.{HandlesPlainly}
use Rattle.run_core.specs.Runs.{MeetsNoLimit}
use Rattle.run_report.specs.Outputs.{Output, StandsWithin}
use Rattle.run_report.proofs.Prefixes.{with_actions-nil, within-none}
use Rattle.crew.specs.Counts.{CountsPlainly}
use Rattle.cello_top.specs.declared.fault.Fault.{Fault}
use Rattle.cello_top.specs.declared.fault.Fault.TheVariants.{Usage, ReadFault, WriteFault, Memory}
use Rattle.cello_top.specs.declared.fault_class.FaultClass.{FaultClass}
use Rattle.cello_top.specs.declared.fault_class.FaultClass.TheVariants.{Allocator, File, Sink, Source, Words}
use Rattle.cello_top.specs.declared.outcome.Outcome.{Outcome}
use Rattle.cello_top.specs.declared.words.TextCommand.{TextCommand}
use Rattle.cello_top.specs.declared.words.TextCommand.TheVariants.{Solo, Check}
use Rattle.cello_top.specs.Words.{IsSolo, IsCheck, IsCommand, IsSomeResume, ReadsSource}
use Rattle.cello_top.specs.Faults.{IsAnswered, SawText, class_ending, class_of}
use Rattle.cello_io.specs.Fetching.{OnlyFetched}
use Rattle.cello_top.specs.Counts.{HandlesBy}
use Rattle.cello_top.specs.Texts.{HasParameters}
use Rattle.cello_top.specs.Answers.{Answer, IsAnswer, other_words, other_text, checked, run, no_file, other_file, gone_on, demonstrated, refusal}
use Rattle.cello_top.specs.Solo.{HoldBytes, IsInput, KeepsPast, ReadOut, Answers, AnswersInPart, read_limit}
use Rattle.cello_top.specs.Lemmas.CommandSteps.{IsOf, call_saw, AnswersRead, AnswersReadInPart, CommandEnds, command_answered, command_source, command_sink, command_memory, CommandHandles}
use Rattle.cello_top.proofs.Counted.{handles-plainly}
use Rattle.cello_top.proofs.Texts.{front_HasParameters, front_HasTextFault, HasParameters-one}
use Rattle.cello_top.proofs.AnswerExists.{text_answer_exists}
use Rattle.cello_top.proofs.OneAnswer.{completes, completes_check, resume_or_source, solo_or_check}

IfSome-from : {A : Type 0} (P : A → Type 0) (o : Option A) → ((x : A) → o ≡ Some x → P x) → IfSome o P
IfSome-from P (Some x) go = go x refl
IfSome-from P None go = tt

-- the bytes that were read, by all that were left
read_are : (old new : Option (List ℕ)) (ended : Bool) (bytes all : List ℕ) → old ≡ Some all → ReadOut old new ended bytes → bytes ≡ take read_limit all
read_are old new ended bytes all is read = subst (λ o. IfSome o (λ xs. bytes ≡ take read_limit xs)) is read.told

-- the answer to what was read is that to all
front_IsAnswer : (words : List (List ℕ)) (all bytes : List ℕ) (past : PastFiles) (a : Answer) → bytes ≡ take read_limit all
    → IsAnswer words bytes past a → IsAnswer words all past a
front_IsAnswer words all bytes past a front (other_words other e) = other_words other e
front_IsAnswer words all bytes past a front (other_text f set faulty e) = other_text f set (front_HasTextFault all bytes f front faulty) e
front_IsAnswer words all bytes past a front (checked p check has e) = checked p check (front_HasParameters all bytes p front has) e
front_IsAnswer words all bytes past a front (run p s limit solo has ends e) = run p s limit solo (front_HasParameters all bytes p front has) ends e
front_IsAnswer words all bytes past a front (no_file n u is none e) = no_file n u is none e
front_IsAnswer words all bytes past a front (other_file n u file f is at stands e) = other_file n u file f is at stands e
front_IsAnswer words all bytes past a front (gone_on n u file s t limit is at stands ends e) = gone_on n u file s t limit is at stands ends e
front_IsAnswer words all bytes past a front (demonstrated seed size bs is sums e) = demonstrated seed size bs is sums e

-- words outside the set
pub usage-answer : (words : List (List ℕ)) (known : Output) (left : Option (List ℕ)) (told : Option PastFiles) (outcome : Outcome) → (IsCommand words → ⊥)
    → outcome.fault ≡ Some Usage → (bytes : List ℕ) (past : PastFiles) → IsInput words left told bytes past → IsAnswered outcome.fault
    → Answers words bytes past outcome known known
usage-answer words known left told outcome other fault bytes past input answered = record {
  answer = refusal Usage;
  is = other_words other refl;
  keeps = record { fault = fault; acted = sym (with_actions-nil known) };
}

-- a call that ends with a fault tells no count
pub none-handled : (handles : Course → ℕ → Type 0) (words : List (List ℕ)) (left : Option (List ℕ)) (outcome : Outcome) (fault : Fault) → outcome.fault ≡ Some fault
    → IfSome left (λ bytes. (p : Parameters) → IsSolo words → HasParameters bytes p → outcome.fault ≡ None → handles (whole p) outcome.handled)
none-handled handles words left outcome fault is = IfSome-from _ left (λ bytes told p solo has well. absurd (none-some fault (sym well ∙ is)))

module _ (counts : AdaptProblem → ℕ → Type 0) (words : List (List ℕ)) (old new : Option (List ℕ)) (ended : Bool) where
  pub done-handled : (command : TextCommand) → IsOf command words → (handled : ℕ) (outcome : Outcome) → outcome.handled ≡ handled → CommandHandles counts command old new ended handled
      → IfSome old (λ bytes. (p : Parameters) → IsSolo words → HasParameters bytes p → outcome.fault ≡ None → HandlesBy counts (whole p) outcome.handled)
  done-handled Solo of handled outcome is h =
      IfSome-from _ old (λ all told p solo has well.
      let q : Parameters = h.0 in
      let r = h.1 in
      let same : q ≡ p = HasParameters-one all q p (front_HasParameters all r.bytes q (read_are old new ended r.bytes all told r.read) r.parameters) has in
      subst (HandlesBy counts (whole p)) (sym is) (subst (λ (x : Parameters). HandlesBy counts (whole x) handled) same h.2))
  done-handled Check of handled outcome is h = IfSome-from _ old (λ all told p solo has well. absurd (solo_or_check words solo of))

  pub done-handled_check : (command : TextCommand) → IsOf command words → (handled : ℕ) (outcome : Outcome) → outcome.handled ≡ handled → CommandHandles counts command old new ended handled
      → IsCheck words → outcome.handled ≡ 0
  done-handled_check Solo of handled outcome is h check = absurd (solo_or_check words of check)
  done-handled_check Check of handled outcome is h check = is ∙ h

module _ (words : List (List ℕ)) (old new : Option (List ℕ)) (ended : Bool) (before after : Output) (known : Option PastFiles) (source : ReadsSource words) where
  answers : (fault : Option Fault) (outcome : Outcome) → outcome.fault ≡ fault → (all : List ℕ) (past : PastFiles) → old ≡ Some all
      → AnswersRead words fault (call_saw old new ended before after) → Answers words all past outcome before after
  answers fault outcome is all past told a = record {
    answer = a.answer;
    is = front_IsAnswer words all a.bytes past a.answer (read_are old new ended a.bytes all told a.read) (a.is past);
    keeps = record { fault = is ∙ a.same_fault; acted = a.acted };
  }

  pub done-answer : (outcome : Outcome) → outcome.fault ≡ None → AnswersRead words None (call_saw old new ended before after)
      → (bytes : List ℕ) (past : PastFiles) → IsInput words old known bytes past → IsAnswered outcome.fault → Answers words bytes past outcome before after
  done-answer outcome is a bytes past input settled = answers None outcome is bytes past (input.source source) a

  module _ (fault : Fault) (outcome : Outcome) (is : outcome.fault ≡ Some fault) where
    pub ends-answer : CommandEnds words fault (call_saw old new ended before after)
        → (bytes : List ℕ) (past : PastFiles) → IsInput words old known bytes past → IsAnswered outcome.fault → Answers words bytes past outcome before after
    ends-answer ends bytes past input settled = go ends (subst IsAnswered is settled)
      where
        go : CommandEnds words fault (call_saw old new ended before after) → IsAnswered (Some fault) → Answers words bytes past outcome before after
        go (command_answered settles seen a) settled = answers (Some fault) outcome is bytes past (input.source source) a
        go (command_source e) settled = absurd (subst (λ (f : Fault). IsAnswered (Some f)) e settled)
        go (command_sink e a) settled = absurd (subst (λ (f : Fault). IsAnswered (Some f)) e settled)
        go (command_memory e h) settled = absurd (subst (λ (f : Fault). IsAnswered (Some f)) e settled)

    -- neither the words nor a file are at fault
    other-cause : (k : FaultClass) → (T (class_ending k).saw_text → ⊥) → (Source ≡ k → ⊥) → (Sink ≡ k → ⊥) → (Allocator ≡ k → ⊥)
        → CommandEnds words fault (call_saw old new ended before after) → class_of fault ≡ k → ⊥
    other-cause k unseen source_not sink_not memory_not (command_answered settles seen a) at =
        unseen (subst (λ (c : FaultClass). T (class_ending c).saw_text) at seen)
    other-cause k unseen source_not sink_not memory_not (command_source e) at = source_not (sym (ap class_of e) ∙ at)
    other-cause k unseen source_not sink_not memory_not (command_sink e a) at = sink_not (sym (ap class_of e) ∙ at)
    other-cause k unseen source_not sink_not memory_not (command_memory e h) at = memory_not (sym (ap class_of e) ∙ at)

    pub ends-no_file : CommandEnds words fault (call_saw old new ended before after) → (g : Fault) → outcome.fault ≡ Some g → class_of g ≡ File → ⊥
    ends-no_file ends g told file =
        other-cause File (λ saw. saw) (λ h. cc) (λ h. cc) (λ h. cc) ends (ap class_of (same_Some fault g (sym is ∙ told)) ∙ file)

    pub ends-usage : CommandEnds words fault (call_saw old new ended before after) → (outcome.fault ≡ Some Usage) ↔ (IsCommand words → ⊥)
    ends-usage ends = (
      (λ told. absurd (other-cause Words (λ saw. saw) (λ h. cc) (λ h. cc) (λ h. cc) ends (ap class_of (same_Some fault Usage (sym is ∙ told))))),
      (λ other. absurd (other (inl source))),
    )

    failed_is : (g : Fault) → outcome.fault ≡ Some g → fault ≡ g
    failed_is g e = same_Some fault g (sym is ∙ e)

    -- a device or want of memory is no answer
    not-answered : IsAnswered (Some fault) → (outcome.fault ≡ Some WriteFault) ⊎ (outcome.fault ≡ Some Memory) → ⊥
    not-answered settles (inl e) = subst (λ (f : Fault). IsAnswered (Some f)) (failed_is WriteFault e) settles
    not-answered settles (inr e) = subst (λ (f : Fault). IsAnswered (Some f)) (failed_is Memory e) settles

    not-source : fault ≡ ReadFault → (outcome.fault ≡ Some WriteFault) ⊎ (outcome.fault ≡ Some Memory) → ⊥
    not-source is (inl e) = let same : fault ≡ WriteFault = failed_is WriteFault e in absurd cc
    not-source is (inr e) = let same : fault ≡ Memory = failed_is Memory e in absurd cc

    pub ends-part : CommandEnds words fault (call_saw old new ended before after)
        → (bytes : List ℕ) (past : PastFiles) → IsInput words old known bytes past → (IsSomeResume words → HoldBytes past)
        → (outcome.fault ≡ Some WriteFault) ⊎ (outcome.fault ≡ Some Memory) → AnswersInPart words bytes past before after
    ends-part ends bytes past input hold cut = go ends
      where
        in_part : AnswersReadInPart words (call_saw old new ended before after) → AnswersInPart words bytes past before after
        in_part a = record {
          answer = a.answer;
          is = front_IsAnswer words bytes a.bytes past a.answer (read_are old new ended a.bytes bytes (input.source source) a.read) (a.is past);
          part = a.part;
        }

        go : CommandEnds words fault (call_saw old new ended before after) → AnswersInPart words bytes past before after
        go (command_answered settles seen a) = absurd (not-answered settles cut)
        go (command_source e) = absurd (not-source e cut)
        go (command_sink e a) = in_part a
        go (command_memory e (inl nothing)) =
            let h = text_answer_exists words bytes past source in
            record { answer = h.0; is = h.1; part = subst (λ (o : Output). StandsWithin h.0.actions before o) (sym nothing) (within-none h.0.actions before) }
        go (command_memory e (inr a)) = in_part a

    pub ends-read : CommandEnds words fault (call_saw old new ended before after) → ReadsSource words → SawText outcome.fault → (bytes : List ℕ) × ReadOut old new ended bytes
    ends-read ends set saw = go ends (subst SawText is saw)
      where
        go : CommandEnds words fault (call_saw old new ended before after) → SawText (Some fault) → (bytes : List ℕ) × ReadOut old new ended bytes
        go (command_answered settles seen a) saw = (a.bytes, a.read)
        go (command_source e) saw = absurd (subst (λ (f : Fault). SawText (Some f)) e saw)
        go (command_sink e a) saw = (a.bytes, a.read)
        go (command_memory e h) saw = absurd (subst (λ (f : Fault). SawText (Some f)) e saw)

    -- an end without a fault where the answer to all has none
    module _ (read_rose write_rose : Type 0) (read_cause : fault ≡ ReadFault → read_rose) (write_cause : fault ≡ WriteFault → write_rose) where
      completed : (all : List ℕ) → old ≡ Some all → ((a : Answer) → IsAnswer words all (λ name. None) a → a.fault ≡ None) → (read_rose → ⊥) → (write_rose → ⊥)
          → CommandEnds words fault (call_saw old new ended before after) → (outcome.fault ≡ None) ⊎ (outcome.fault ≡ Some Memory)
      completed all told well no_read no_write (command_answered settles seen a) =
          inl (is ∙ a.same_fault ∙ well a.answer (front_IsAnswer words all a.bytes (λ name. None) a.answer (read_are old new ended a.bytes all told a.read) (a.is (λ name. None))))
      completed all told well no_read no_write (command_source e) = absurd (no_read (read_cause e))
      completed all told well no_read no_write (command_sink e a) = absurd (no_write (write_cause e))
      completed all told well no_read no_write (command_memory e h) = inr (is ∙ ap Some e)

    pub ends-complete : (read_rose sink_rose shelf_rose : Type 0) → (fault ≡ ReadFault → read_rose) → (fault ≡ WriteFault → sink_rose ⊎ shelf_rose)
        → CommandEnds words fault (call_saw old new ended before after)
        → IfSome old (λ bytes. (p : Parameters) → IsSolo words → HasParameters bytes p → MeetsNoLimit (whole p) → (read_rose → ⊥) → (sink_rose → ⊥) → (shelf_rose → ⊥)
        → (outcome.fault ≡ None) ⊎ (outcome.fault ≡ Some Memory))
    ends-complete read_rose sink_rose shelf_rose read_cause write_cause ends =
        IfSome-from _ old (λ all told p solo has free no_read no_sink no_shelf.
        completed read_rose (sink_rose ⊎ shelf_rose) read_cause write_cause all told (λ a answer. completes words all (λ name. None) a p solo has free answer) no_read
        (λ rose. elim rose [ inl sink ↦ no_sink sink | inr shelf ↦ no_shelf shelf ]) ends)

    pub ends-complete_check : (read_rose sink_rose : Type 0) → (fault ≡ ReadFault → read_rose) → (IsCheck words → fault ≡ WriteFault → sink_rose)
        → CommandEnds words fault (call_saw old new ended before after)
        → IfSome old (λ bytes. (p : Parameters) → IsCheck words → HasParameters bytes p → (read_rose → ⊥) → (sink_rose → ⊥)
        → (outcome.fault ≡ None) ⊎ (outcome.fault ≡ Some Memory))
    ends-complete_check read_rose sink_rose read_cause write_cause ends =
        IfSome-from _ old (λ all told p check has no_read no_write.
        completed read_rose sink_rose read_cause (write_cause check) all told (λ a answer. completes_check words all (λ name. None) a p check has answer) no_read no_write ends)

-- words of `check` are of no other command
pub check-command : (command : TextCommand) (words : List (List ℕ)) → IsOf command words → IsCheck words → command ≡ Check
check-command Solo words of check = absurd (solo_or_check words of check)
check-command Check words of check = refl

-- a call that didn't end by a failed write came from a command that didn't
pub not-failed : {A : Type 0} (fault : Fault) (outcome : Outcome) (r : Result A Fault) → r ≡ Err fault → outcome.fault ≡ Some fault → (outcome.fault ≡ Some WriteFault → ⊥)
    → r ≡ Err WriteFault → ⊥
not-failed fault outcome r is told well failed =
    let same : fault ≡ WriteFault = cc in
    well (told ∙ ap Some same)

-- ---- what every command leaves as it is

-- nothing was done to the shelf
pub same-only : (t : ShelfTells) → OnlyFetched t t
same-only t = record {
  past = refl;
  written = refl;
  writing = refl;
  write_faults = refl;
  fetch_faults = omega arith;
  absences = omega arith;
}

pub unmade-same : {A : Type 0} (tells : A → ShelfTells) (old new : A) → new ≡ old → OnlyFetched (tells old) (tells new)
unmade-same tells old new same = subst (λ (t : ShelfTells). OnlyFetched (tells old) t) (sym (ap tells same)) (same-only (tells old))

pub keeps-same : (old new : ShelfTells) → SamePast old new → KeepsPast old new
keeps-same old new same = record {
  past = same.past;
  fetch_faults = let e = same.fetch_faults in omega (arith, e);
  absences = let e = same.absences in omega (arith, e);
}

-- words of a command that reads the source are none of `resume`
pub text_or_resume : (words : List (List ℕ)) → ReadsSource words → IsSomeResume words → ⊥
text_or_resume words source h = resume_or_source words h.0 h.1 h.2 source

-- what one thread counts is what plain delivery handles
pub plain-handled : (words : List (List ℕ)) (left : Option (List ℕ)) (outcome : Outcome)
    → IfSome left (λ bytes. (p : Parameters) → IsSolo words → HasParameters bytes p → outcome.fault ≡ None → HandlesBy CountsPlainly (whole p) outcome.handled)
    → IfSome left (λ bytes. (p : Parameters) → IsSolo words → HasParameters bytes p → outcome.fault ≡ None → HandlesPlainly (whole p) outcome.handled)
plain-handled words (Some bytes) outcome h = λ p solo has well. handles-plainly (whole p) outcome.handled (h p solo has well)
plain-handled words None outcome h = tt

-- what is said of `solo` and `check` alone
pub other-handled : (handles : Course → ℕ → Type 0) (words : List (List ℕ)) (left : Option (List ℕ)) (outcome : Outcome) → (IsSolo words → ⊥)
    → IfSome left (λ bytes. (p : Parameters) → IsSolo words → HasParameters bytes p → outcome.fault ≡ None → handles (whole p) outcome.handled)
other-handled handles words left outcome not = IfSome-from _ left (λ bytes told p solo has well. absurd (not solo))

pub other-complete : (words : List (List ℕ)) (left : Option (List ℕ)) (read_rose sink_rose shelf_rose : Type 0) (outcome : Outcome) → (IsSolo words → ⊥)
    → IfSome left (λ bytes. (p : Parameters) → IsSolo words → HasParameters bytes p → MeetsNoLimit (whole p) → (read_rose → ⊥) → (sink_rose → ⊥) → (shelf_rose → ⊥)
    → (outcome.fault ≡ None) ⊎ (outcome.fault ≡ Some Memory))
other-complete words left read_rose sink_rose shelf_rose outcome not = IfSome-from _ left (λ bytes told p solo has free no_read no_sink no_shelf. absurd (not solo))

pub other-complete_check : (words : List (List ℕ)) (left : Option (List ℕ)) (read_rose sink_rose : Type 0) (outcome : Outcome) → (IsCheck words → ⊥)
    → IfSome left (λ bytes. (p : Parameters) → IsCheck words → HasParameters bytes p → (read_rose → ⊥) → (sink_rose → ⊥)
    → (outcome.fault ≡ None) ⊎ (outcome.fault ≡ Some Memory))
other-complete_check words left read_rose sink_rose outcome not = IfSome-from _ left (λ bytes told p check has no_read no_sink. absurd (not check))

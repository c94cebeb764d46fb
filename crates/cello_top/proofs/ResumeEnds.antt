-- How a call of `solo` ends, from how `resume` ends.
use Rattle.std.proofs.Common.{◌≡◌, ℕ, List, take, Option, Some, None, Result, Ok, Err, refl, sym, ap, subst, ◌∙◌, ◌⊎◌, inl, inr}
use Rattle.std.specs.Prelude.{◌↔◌, IfErr, IfSome, IsSomeAnd}
use Rattle.std.proofs.lemmas.Option.{none-some, same_Some}
use Rattle.adapt_core.specs.Cells.{AdaptProblem}
use Rattle.cello_io.specs.Files.{PastFiles, ShelfTells}
use Rattle.checkpoint.specs.declared.fault.CheckFault.{CheckFault}
use Rattle.checkpoint.specs.Reading.{ReadsAs}
use Rattle.checkpoint.specs.SavedStates.{SavedState}
use Rattle.restart_laws.specs.Resumes.{StandsFor, fetch_limit, resumed}
use Rattle.run_core.specs.declared.fault.RunFault.{RunFault}
use Rattle.run_core.specs.Courses.{Course}
use Rattle.run_core.specs.Runs.{MeetsNoLimit, RunEnds}
use Rattle.run_report.specs.Actions.{Action}
use Rattle.run_report.specs.Outputs.{Output, StandsWithin}
use Rattle.run_report.proofs.Prefixes.{with_actions-nil, within-all, within-none}
use Rattle.cello_io.specs.Fetching.{HasFetched}
use Rattle.cello_top.specs.declared.fault.Fault.{Fault}
use Rattle.cello_top.specs.declared.fault.Fault.TheVariants.{Absent, Checkpoint, Memory, ReadFault, Usage, WriteFault}
use Rattle.cello_top.specs.declared.fault_class.FaultClass.TheVariants.{Limit}
use Rattle.cello_top.specs.declared.outcome.Outcome.{Outcome}
use Rattle.cello_top.specs.Words.{IsCommand, IsResume, IsSomeResume}
use Rattle.cello_top.specs.Faults.{IsAnswered, class_of, fault_of}
use Rattle.cello_top.specs.Answers.{Answer, IsAnswer, gone_on, no_file, other_file, refusal, resumed_answer}
use Rattle.cello_top.specs.Solo.{Answers, AnswersInPart, HoldBytes, IsFileAtFault, IsInput, IsWithoutFile}
use Rattle.cello_top.specs.Counts.{HandlesBy}
use Rattle.cello_top.specs.Lemmas.CommandSteps.{RunningEnds, running_failed, running_limit, running_memory}
use Rattle.cello_top.specs.Lemmas.Resuming.{ResumeDone, ResumeEnds, ResumingEnds, fetching_absent, fetching_failed, fetching_memory, resume_fetched, resume_unfetched, resuming_file, resuming_memory, resuming_run}
use Rattle.cello_top.proofs.FaultClasses.{limit-class, other-class}
use Rattle.cello_top.proofs.OneAnswer.{resume-name, resume-until, state-one, state_or_fault, unlimited}

-- ---- the file

-- the past file of a name, by what was fetched of it
record ToldFile (past : PastFiles) (name bytes : List ℕ) : Type 0 where
  file : List ℕ
  at : past name ≡ Some file
  front : bytes ≡ take fetch_limit file

told_file : (tells : ShelfTells) (name bytes : List ℕ) (past : PastFiles) → tells.past ≡ Some past → HasFetched name fetch_limit bytes tells → ToldFile past name bytes
told_file tells name bytes past told has =
    go (past name) refl (subst (λ (o : Option PastFiles). IfSome o (λ files. IsSomeAnd (files name) (λ file. bytes ≡ take fetch_limit file))) told has)
  where
    go : (found : Option (List ℕ)) → past name ≡ found → IsSomeAnd found (λ file. bytes ≡ take fetch_limit file) → ToldFile past name bytes
    go (Some file) at front = record { file = file; at = at; front = front }
    go None at none = absurd none

no_told_file : (tells : ShelfTells) (name : List ℕ) (past : PastFiles) → tells.past ≡ Some past → IfSome tells.past (λ files. files name ≡ None) → past name ≡ None
no_told_file tells name past told none = subst (λ (o : Option PastFiles). IfSome o (λ files. files name ≡ None)) told none

-- what was read of it is what it stands for
stands : (name bytes : List ℕ) (past : PastFiles) (t : ToldFile past name bytes) (r : Result SavedState CheckFault) → ReadsAs bytes r → StandsFor t.file r
stands name bytes past t r reads = subst (λ (l : List ℕ). ReadsAs l r) t.front reads

-- a file that is told again
same_file : (name bytes file : List ℕ) (past : PastFiles) → past name ≡ Some file → (t : ToldFile past name bytes) → bytes ≡ take fetch_limit file
same_file name bytes file past at t = t.front ∙ ap (λ (l : List ℕ). take fetch_limit l) (same_Some t.file file (sym t.at ∙ at))

-- ---- what no end is

running-not : (front : List Action) (c : Course) (before after : Output) (fault g : Fault) → (Limit ≡ class_of g → ⊥) → (WriteFault ≡ g → ⊥) → (Memory ≡ g → ⊥)
    → RunningEnds front c before after fault → fault ≡ g → ⊥
running-not front c before after fault g limits writes memory (running_limit limit is h) e =
    other-class (fault_of limit) g Limit (limit-class c h.state limit h.ends) limits (sym is ∙ e)
running-not front c before after fault g limits writes memory (running_failed is h) e = writes (sym is ∙ e)
running-not front c before after fault g limits writes memory (running_memory is h) e = memory (sym is ∙ e)

resuming-not : (bytes : List ℕ) (until : ℕ) (before after : Output) (fault g : Fault) → (Limit ≡ class_of g → ⊥) → (WriteFault ≡ g → ⊥) → (Memory ≡ g → ⊥)
    → ((f : CheckFault) → Checkpoint f ≡ g → ⊥) → ResumingEnds bytes until before after fault → fault ≡ g → ⊥
resuming-not bytes until before after fault g limits writes memory files (resuming_file f bad other leaves is same) e = files f (sym is ∙ e)
resuming-not bytes until before after fault g limits writes memory files (resuming_memory is same) e = memory (sym is ∙ e)
resuming-not bytes until before after fault g limits writes memory files (resuming_run s reads ends) e =
    running-not _ (resumed s until) before after fault g limits writes memory ends e

-- what goes on from bytes ends neither by the shelf nor by a name
pub resuming-not_read : (bytes : List ℕ) (until : ℕ) (before after : Output) (r : Result ℕ Fault) → IfErr r (ResumingEnds bytes until before after) → r ≡ Err ReadFault → ⊥
resuming-not_read bytes until before after (Ok n) ends e = cc
resuming-not_read bytes until before after (Err f) ends e =
    let same : f ≡ ReadFault = cc in
    resuming-not bytes until before after f ReadFault (λ h. cc) (λ h. cc) (λ h. cc) (λ g h. cc) ends same

pub resuming-not_absent : (bytes : List ℕ) (until : ℕ) (before after : Output) (r : Result ℕ Fault) (name : List ℕ) → IfErr r (ResumingEnds bytes until before after)
    → r ≡ Err (Absent name) → ⊥
resuming-not_absent bytes until before after (Ok n) name ends e = cc
resuming-not_absent bytes until before after (Err f) name ends e =
    let same : f ≡ Absent name = cc in
    resuming-not bytes until before after f (Absent name) (λ h. cc) (λ h. cc) (λ h. cc) (λ g h. cc) ends same

pub resume-not_usage : (name : List ℕ) (until : ℕ) (tells : ShelfTells) (before after : Output) (fault : Fault) → ResumeEnds name until tells before after fault → fault ≡ Usage → ⊥
resume-not_usage name until tells before after fault (resume_unfetched (fetching_failed is) same) e = cc
resume-not_usage name until tells before after fault (resume_unfetched (fetching_absent is none) same) e = cc
resume-not_usage name until tells before after fault (resume_unfetched (fetching_memory is) same) e = cc
resume-not_usage name until tells before after fault (resume_fetched bytes has ends) e =
    resuming-not bytes until before after fault Usage (λ h. cc) (λ h. cc) (λ h. cc) (λ g h. cc) ends e

-- ---- the clauses

settled_as : (f g : Fault) → f ≡ g → IsAnswered (Some f) → IsAnswered (Some g)
settled_as f g e settled = subst (λ (h : Fault). IsAnswered (Some h)) e settled

module _ (words : List (List ℕ)) (name : List ℕ) (until : ℕ) (is : IsResume words name until) (tells : ShelfTells) (before after : Output) where
  -- a call that refuses, and wrote nothing
  refused : (bytes : List ℕ) (past : PastFiles) (outcome : Outcome) (g : Fault) → IsAnswer words bytes past (refusal g) → outcome.fault ≡ Some g → after ≡ before
      → Answers words bytes past outcome before after
  refused bytes past outcome g answer fault same = record {
    answer = refusal g;
    is = answer;
    keeps = record { fault = fault; acted = same ∙ sym (with_actions-nil before) };
  }

  module _ (left : Option (List ℕ)) (bytes : List ℕ) (past : PastFiles) (input : IsInput words left tells.past bytes past) where
    told : tells.past ≡ Some past
    told = input.shelf (name, until, is)

    pub resumed-answer : (counts : AdaptProblem → ℕ → Type 0) (handled : ℕ) (outcome : Outcome) → outcome.fault ≡ None → ResumeDone counts name until tells before after handled
        → IsAnswered outcome.fault → Answers words bytes past outcome before after
    resumed-answer counts handled outcome fault h settled =
        let t = told_file tells name h.bytes past told h.fetched in
        record {
          answer = resumed_answer h.state h.ran.ran.state None;
          is = gone_on name until t.file h.state h.ran.ran.state None is t.at (stands name h.bytes past t (Ok h.state) h.reads) h.ran.ran.ends refl;
          keeps = record { fault = fault; acted = h.ran.ran.acted };
        }

    pub resume-answer : (fault : Fault) (outcome : Outcome) → outcome.fault ≡ Some fault → ResumeEnds name until tells before after fault
        → IsAnswered outcome.fault → Answers words bytes past outcome before after
    resume-answer fault outcome so ends settled = go ends (subst IsAnswered so settled)
      where
        go : ResumeEnds name until tells before after fault → IsAnswered (Some fault) → Answers words bytes past outcome before after
        go (resume_unfetched (fetching_failed e) same) settled = absurd (settled_as fault ReadFault e settled)
        go (resume_unfetched (fetching_absent e none) same) settled =
            refused bytes past outcome (Absent name) (no_file name until is (no_told_file tells name past told none) refl) (so ∙ ap Some e) same
        go (resume_unfetched (fetching_memory e) same) settled = absurd (settled_as fault Memory e settled)
        go (resume_fetched read has (resuming_file f bad other leaves e same)) settled =
            let t = told_file tells name read past told has in
            refused bytes past outcome (Checkpoint f) (other_file name until t.file f is t.at (stands name read past t (Err f) bad) refl) (so ∙ ap Some e) same
        go (resume_fetched read has (resuming_memory e same)) settled = absurd (settled_as fault Memory e settled)
        go (resume_fetched read has (resuming_run s reads (running_limit limit e ran))) settled =
            let t = told_file tells name read past told has in
            record {
              answer = resumed_answer s ran.state (Some limit);
              is = gone_on name until t.file s ran.state (Some limit) is t.at (stands name read past t (Ok s) reads) ran.ends refl;
              keeps = record { fault = so ∙ ap Some e; acted = ran.acted };
            }
        go (resume_fetched read has (resuming_run s reads (running_failed e ran))) settled = absurd (settled_as fault WriteFault e settled)
        go (resume_fetched read has (resuming_run s reads (running_memory e ran))) settled = absurd (settled_as fault Memory e settled)

    pub resume-part : ((IsSomeResume words → HoldBytes past) → (a : Answer) × IsAnswer words bytes past a) → (fault : Fault)
        → ResumeEnds name until tells before after fault → (IsSomeResume words → HoldBytes past) → AnswersInPart words bytes past before after
    resume-part exists fault ends hold = go ends
      where
        nothing : after ≡ before → AnswersInPart words bytes past before after
        nothing same =
            let h = exists hold in
            record { answer = h.0; is = h.1; part = subst (λ (o : Output). StandsWithin h.0.actions before o) (sym same) (within-none h.0.actions before) }

        go : ResumeEnds name until tells before after fault → AnswersInPart words bytes past before after
        go (resume_unfetched ends same) = nothing same
        go (resume_fetched read has (resuming_file f bad other leaves e same)) = nothing same
        go (resume_fetched read has (resuming_memory e same)) = nothing same
        go (resume_fetched read has (resuming_run s reads (running_limit limit e ran))) =
            let t = told_file tells name read past told has in
            record {
              answer = resumed_answer s ran.state (Some limit);
              is = gone_on name until t.file s ran.state (Some limit) is t.at (stands name read past t (Ok s) reads) ran.ends refl;
              part = within-all (resumed_answer s ran.state (Some limit)).actions before after ran.acted;
            }
        go (resume_fetched read has (resuming_run s reads (running_failed e ran))) =
            let t = told_file tells name read past told has in
            record {
              answer = resumed_answer s ran.state ran.limit;
              is = gone_on name until t.file s ran.state ran.limit is t.at (stands name read past t (Ok s) reads) ran.ends refl;
              part = ran.part;
            }
        go (resume_fetched read has (resuming_run s reads (running_memory e ran))) =
            let t = told_file tells name read past told has in
            record {
              answer = resumed_answer s ran.state ran.limit;
              is = gone_on name until t.file s ran.state ran.limit is t.at (stands name read past t (Ok s) reads) ran.ends refl;
              part = ran.part;
            }

  -- a file that was refused
  pub resume-file : (fault : Fault) (outcome : Outcome) → outcome.fault ≡ Some fault → ResumeEnds name until tells before after fault
      → (f : CheckFault) → outcome.fault ≡ Some (Checkpoint f) → IsFileAtFault words tells f
  resume-file fault outcome so ends f e = go ends (same_Some fault (Checkpoint f) (sym so ∙ e))
    where
      fault_of_file : (g h : CheckFault) → Checkpoint g ≡ Checkpoint h → g ≡ h
      fault_of_file g h e = cc

      no_limit : (limit : RunFault) → class_of (fault_of limit) ≡ Limit → fault_of limit ≡ Checkpoint f → ⊥
      no_limit limit is e = other-class (fault_of limit) (Checkpoint f) Limit is (λ h. cc) e

      go : ResumeEnds name until tells before after fault → fault ≡ Checkpoint f → IsFileAtFault words tells f
      go (resume_unfetched (fetching_failed e) same) at = absurd cc
      go (resume_unfetched (fetching_absent e none) same) at = absurd cc
      go (resume_unfetched (fetching_memory e) same) at = absurd cc
      go (resume_fetched read has (resuming_file g bad other leaves e same)) at =
          let here : g ≡ f = fault_of_file g f (sym e ∙ at) in
          subst (λ (h : CheckFault). IsFileAtFault words tells h) here (record {
            name = name;
            until = until;
            is = is;
            bytes = read;
            fetched = has;
            faulty = bad;
            other = other;
            leaves = leaves;
          })
      go (resume_fetched read has (resuming_memory e same)) at = absurd cc
      go (resume_fetched read has (resuming_run s reads (running_limit limit e ran))) at =
          absurd (no_limit limit (limit-class (resumed s until) ran.state limit ran.ends) (sym e ∙ at))
      go (resume_fetched read has (resuming_run s reads (running_failed e ran))) at = absurd cc
      go (resume_fetched read has (resuming_run s reads (running_memory e ran))) at = absurd cc

  -- a name that has no file
  pub resume-absent : (fault : Fault) (outcome : Outcome) → outcome.fault ≡ Some fault → ResumeEnds name until tells before after fault
      → (absent : List ℕ) → outcome.fault ≡ Some (Absent absent) → IsWithoutFile words tells absent
  resume-absent fault outcome so ends absent e = go ends (same_Some fault (Absent absent) (sym so ∙ e))
    where
      same_name : (n m : List ℕ) → Absent n ≡ Absent m → n ≡ m
      same_name n m e = cc

      go : ResumeEnds name until tells before after fault → fault ≡ Absent absent → IsWithoutFile words tells absent
      go (resume_unfetched (fetching_failed e) same) at = absurd cc
      go (resume_unfetched (fetching_absent e none) same) at =
          subst (λ (l : List ℕ). IsWithoutFile words tells l) (same_name name absent (sym e ∙ at)) (record { until = until; is = is; none = none })
      go (resume_unfetched (fetching_memory e) same) at = absurd cc
      go (resume_fetched read has ends) at =
          absurd (resuming-not read until before after fault (Absent absent) (λ h. cc) (λ h. cc) (λ h. cc) (λ g h. cc) ends at)

  -- an end without a fault, where the file is a checkpoint from which a run meets no limit
  module _ (one : (bytes : List ℕ) (r q : Result SavedState CheckFault) → ReadsAs bytes r → ReadsAs bytes q → r ≡ q) (past : PastFiles) (told : tells.past ≡ Some past)
      (n file : List ℕ) (u : ℕ) (s : SavedState) (words_are : IsResume words n u) (at : past n ≡ Some file) (reads : StandsFor file (Ok s)) where
    at_name : past name ≡ Some file
    at_name = subst (λ (l : List ℕ). past l ≡ Some file) (resume-name words n name u until words_are is) at

    -- what was fetched reads as the state
    fetched-reads : (bytes : List ℕ) → HasFetched name fetch_limit bytes tells → ReadsAs bytes (Ok s)
    fetched-reads bytes has =
        let t = told_file tells name bytes past told has in
        subst (λ (l : List ℕ). ReadsAs l (Ok s)) (sym (same_file name bytes file past at_name t)) reads

    pub resumed-handled : (counts : AdaptProblem → ℕ → Type 0) (handled : ℕ) (outcome : Outcome) → outcome.handled ≡ handled → ResumeDone counts name until tells before after handled
        → outcome.fault ≡ None → HandlesBy counts (resumed s u) outcome.handled
    resumed-handled counts handled outcome e h well =
        let same : h.state ≡ s = state-one one h.bytes h.state s h.reads (fetched-reads h.bytes h.fetched) in
        let counted : HandlesBy counts (resumed s until) handled = subst (λ (t : SavedState). HandlesBy counts (resumed t until) handled) same h.ran.counted in
        subst (λ k. HandlesBy counts (resumed s u) k) (sym e)
        (subst (λ k. HandlesBy counts (resumed s k) handled) (resume-until words name n until u is words_are) counted)

    pub resume-complete : (fetch_rose sink_rose shelf_rose : Type 0) (fault : Fault) (outcome : Outcome) → outcome.fault ≡ Some fault → (fault ≡ ReadFault → fetch_rose)
        → (fault ≡ WriteFault → sink_rose ⊎ shelf_rose) → ResumeEnds name until tells before after fault → MeetsNoLimit (resumed s u) → (fetch_rose → ⊥) → (sink_rose → ⊥) → (shelf_rose → ⊥)
        → (outcome.fault ≡ None) ⊎ (outcome.fault ≡ Some Memory)
    resume-complete fetch_rose sink_rose shelf_rose fault outcome so fetches writes ends free no_fetch no_sink no_shelf = inr (so ∙ ap Some (go ends))
      where
        no_write : fault ≡ WriteFault → ⊥
        no_write e = elim (writes e) [ inl sink ↦ no_sink sink | inr shelf ↦ no_shelf shelf ]

        free_here : MeetsNoLimit (resumed s until)
        free_here = subst (λ k. MeetsNoLimit (resumed s k)) (resume-until words n name u until words_are is) free

        go : ResumeEnds name until tells before after fault → fault ≡ Memory
        go (resume_unfetched (fetching_failed e) same) = absurd (no_fetch (fetches e))
        go (resume_unfetched (fetching_absent e none) same) = absurd (none-some file (sym (no_told_file tells name past told none) ∙ at_name))
        go (resume_unfetched (fetching_memory e) same) = e
        go (resume_fetched read has (resuming_file f bad other leaves e same)) = absurd (state_or_fault one read s f (fetched-reads read has) bad)
        go (resume_fetched read has (resuming_memory e same)) = e
        go (resume_fetched read has (resuming_run t found (running_limit limit e ran))) =
            let same : t ≡ s = state-one one read t s found (fetched-reads read has) in
            let ends : RunEnds (resumed s until) ran.state (Some limit) = subst (λ (v : SavedState). RunEnds (resumed v until) ran.state (Some limit)) same ran.ends in
            absurd (none-some limit (sym (unlimited (resumed s until) ran.state (Some limit) ends free_here)))
        go (resume_fetched read has (resuming_run t found (running_failed e ran))) = absurd (no_write e)
        go (resume_fetched read has (resuming_run t found (running_memory e ran))) = e

-- words of `resume` aren't refused as words
pub resume-usage : (words : List (List ℕ)) (name : List ℕ) (until : ℕ) → IsResume words name until → (tells : ShelfTells) (before after : Output) (fault : Fault) (outcome : Outcome)
    → outcome.fault ≡ Some fault → ResumeEnds name until tells before after fault → (outcome.fault ≡ Some Usage) ↔ (IsCommand words → ⊥)
resume-usage words name until is tells before after fault outcome so ends = (
  (λ told. absurd (resume-not_usage name until tells before after fault ends (same_Some fault Usage (sym so ∙ told)))),
  (λ other. absurd (other (inr (inl (name, until, is))))),
)

pub well-usage : (words : List (List ℕ)) (outcome : Outcome) → outcome.fault ≡ None → IsCommand words → (outcome.fault ≡ Some Usage) ↔ (IsCommand words → ⊥)
well-usage words outcome well is = ((λ told. absurd (none-some Usage (sym well ∙ told))), (λ other. absurd (other is)))

-- a call that ended well wasn't cut
pub well-whole : (outcome : Outcome) → outcome.fault ≡ None → (outcome.fault ≡ Some WriteFault) ⊎ (outcome.fault ≡ Some Memory) → ⊥
well-whole outcome well (inl e) = none-some WriteFault (sym well ∙ e)
well-whole outcome well (inr e) = none-some Memory (sym well ∙ e)

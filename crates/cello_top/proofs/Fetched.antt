-- The command `resume`, from how fetching its file ends and how going on from its bytes ends.
use Rattle.std.proofs.Common.{◌≡◌, ℕ, Bool, List, Option, Some, Result, Ok, Err, length, sym, ap, subst, ◌∙◌, arith, inl, inr}
use Rattle.std.specs.Prelude.{IfErr, IfOk, IsFalse}
use Rattle.adapt_core.specs.Cells.{AdaptProblem}
use Rattle.cello_io.specs.Counts.{Rose}
use Rattle.cello_io.specs.Files.{MadeFile, ShelfTells}
use Rattle.checkpoint.specs.Reading.{ReadsAs}
use Rattle.checkpoint.specs.SavedStates.{SavedState}
use Rattle.restart_laws.specs.Resumes.{fetch_limit, resumed}
use Rattle.run_report.specs.Actions.{restart_pieces}
use Rattle.run_report.specs.Outputs.{Output, output}
use Rattle.cello_io.specs.Fetching.{HasFetched, OnlyFetched}
use Rattle.cello_top.specs.declared.fault.Fault.{Fault}
use Rattle.cello_top.specs.declared.fault.Fault.TheVariants.{WriteFault}
use Rattle.cello_top.specs.Faults.{CameToWrite}
use Rattle.cello_top.specs.Lemmas.CommandSteps.{KeepsDevices, RanWhole, TreatsDevices}
use Rattle.cello_top.specs.Lemmas.Resuming.{FetchingEnds, ResumeDone, ResumeEnds, ResumingEnds, fetching_absent, fetching_failed, fetching_memory, resume_fetched, resume_unfetched}

-- only fetching was done
module _ (old mid : ShelfTells) (only : OnlyFetched old mid) where
  pub idle-still : IsFalse old.is_writing → IsFalse mid.is_writing
  idle-still idle = subst (λ (b : Bool). IsFalse b) (sym only.writing) idle

  pub unfetched-devices : (count : ℕ) (name : List ℕ) (fault : Fault) (r : Result ℕ Fault) → r ≡ Err fault → FetchingEnds name old fault → IsFalse old.is_writing
      → KeepsDevices count count old mid (r ≡ Err WriteFault)
  unfetched-devices count name fault r is ends idle = record {
    sink_faults = omega arith;
    shelf_faults = let same = only.write_faults in omega (arith, same);
    past = record { past = only.past; fetch_faults = only.fetch_faults; absences = only.absences };
    cause = λ failed. absurd (not_written ends failed);
    idle = λ well. idle-still idle;
  }
    where
      not_written : FetchingEnds name old fault → r ≡ Err WriteFault → ⊥
      not_written (fetching_failed e) failed = cc
      not_written (fetching_absent e none) failed = cc
      not_written (fetching_memory e) failed = cc

  pub unfetched-ends : (name : List ℕ) (until : ℕ) (sink : Option (List ℕ)) (fault : Fault) → FetchingEnds name old fault
      → ResumeEnds name until old (output sink old.written) (output sink mid.written) fault
  unfetched-ends name until sink fault ends = resume_unfetched ends (ap (λ (files : Option (List MadeFile)). output sink files) only.written)

  module _ (new : ShelfTells) where
    pub fetched-unmade : (r : Result ℕ Fault) → IfErr r (λ fault. (CameToWrite (Some fault) → ⊥) → new ≡ mid)
        → IfErr r (λ fault. (CameToWrite (Some fault) → ⊥) → OnlyFetched old new)
    fetched-unmade (Ok n) h = tt
    fetched-unmade (Err f) h = λ not. subst (λ (t : ShelfTells). OnlyFetched old t) (sym (h not)) only

    pub fetched-devices : (before after : ℕ) (failed : Type 0) → TreatsDevices before after mid new failed → KeepsDevices before after old new failed
    fetched-devices before after failed t = record {
      sink_faults = t.sink_faults;
      shelf_faults = let same = only.write_faults in let more = t.shelf_faults in omega (arith, same, more);
      past = record {
        past = t.past.past ∙ only.past;
        fetch_faults = let same = t.past.fetch_faults in let more = only.fetch_faults in omega (arith, same, more);
        absences = let same = t.past.absences in let more = only.absences in omega (arith, same, more);
      };
      cause = λ f. elim (t.cause f) [ inl sink ↦ inl sink | inr shelf ↦ inr (subst (λ k. Rose k new.write_faults) only.write_faults shelf) ];
      idle = t.idle;
    }

  module _ (name : List ℕ) (until : ℕ) (sink : Option (List ℕ)) (after : Output) (shown bytes : List ℕ) (same : shown ≡ bytes)
      (has : HasFetched name fetch_limit bytes old) where
    pub fetched-done : (counts : AdaptProblem → ℕ → Type 0) (r : Result ℕ Fault)
        → IfOk r (λ handled. (s : SavedState) × ReadsAs shown (Ok s)
        × RanWhole counts (restart_pieces s.cycle (length s.places)) (resumed s until) handled (output sink mid.written) after)
        → IfOk r (ResumeDone counts name until old (output sink old.written) after)
    fetched-done counts (Ok n) h = record {
      bytes = bytes;
      fetched = has;
      state = h.0;
      reads = subst (λ (l : List ℕ). ReadsAs l (Ok h.0)) same h.1;
      ran = subst (λ (files : Option (List MadeFile)). RanWhole counts (restart_pieces h.0.cycle (length h.0.places)) (resumed h.0 until) n (output sink files) after)
          only.written h.2;
    }
    fetched-done counts (Err f) h = tt

    pub fetched-ends : (r : Result ℕ Fault) → IfErr r (ResumingEnds shown until (output sink mid.written) after)
        → IfErr r (ResumeEnds name until old (output sink old.written) after)
    fetched-ends (Ok n) h = tt
    fetched-ends (Err f) h =
        resume_fetched bytes has
        (subst (λ (files : Option (List MadeFile)). ResumingEnds bytes until (output sink files) after f) only.written
        (subst (λ (l : List ℕ). ResumingEnds l until (output sink mid.written) after f) same h))

-- How the demonstration ends, from how its run ends.
use Rattle.std.proofs.Common.{◌≡◌, ◌⊎◌, ℕ, ◌≤◌, List, [], ◌∷◌, Option, Some, None, Ok, length, refl, sym, ap, subst, ◌∙◌, inl, inr}
use Rattle.std.proofs.lemmas.Option.{none-some}
use Rattle.adapt_core.specs.Cells.{AdaptProblem}
use Rattle.block_index.specs.Places.{Cube}
use Rattle.demo_params.specs.DemoTexts.{demo_text}
use Rattle.params_syntax.specs.declared.tree.Group.{Group}
use Rattle.params_syntax.specs.Reading.{Spells}
use Rattle.params_check.specs.Parameters.{Parameters}
use Rattle.params_check.specs.Walks.{parameters_of}
use Rattle.roomy_runs.specs.Summaries.{IsSummary}
use Rattle.run_core.specs.declared.fault.RunFault.{RunFault}
use Rattle.run_core.specs.Courses.{Course, RunState, whole}
use Rattle.run_core.specs.Runs.{RunEnds}
use Rattle.run_core.specs.Works.{Standing}
use Rattle.run_report.specs.Actions.{piece}
use Rattle.run_report.specs.Outputs.{Output, with_actions}
use Rattle.cello_top.specs.declared.fault.Fault.{Fault}
use Rattle.cello_top.specs.declared.fault.Fault.TheVariants.{Memory}
use Rattle.cello_top.specs.Counts.{HandlesBy}
use Rattle.cello_top.specs.Faults.{fault_of}
use Rattle.cello_top.specs.Texts.{HasParameters, HasTextFault}
use Rattle.cello_top.specs.Lemmas.Demonstrating.{DemoDone, DemoEnds, EndsShown, IsCutBy, demo_memory, ledger_summary}
use Rattle.cello_top.proofs.SummaryAmounts.{summary-same}
use Rattle.cello_top.proofs.Texts.{accepted_or_faulty}

-- the text of a demonstration has no fault
pub no-fault : (seed size : ℕ) (groups : List Group) (p : Parameters) → Spells (demo_text seed size) groups → parameters_of groups ≡ Ok p
    → (text : List ℕ) → text ≡ demo_text seed size → (fault : Fault) → (fault ≡ Memory) ⊎ HasTextFault text fault → fault ≡ Memory
no-fault seed size groups p spells accepted text is fault (inl memory) = memory
no-fault seed size groups p spells accepted text is fault (inr faulty) =
    absurd (accepted_or_faulty (demo_text seed size) p fault (record { groups = groups; spelled = spells; accepted = accepted })
    (subst (λ (t : List ℕ). HasTextFault t fault) is faulty))

module _ (seed size : ℕ) (p : Parameters) (has : HasParameters (demo_text seed size) p) where
  -- what cuts its run off is want of memory
  pub cut-memory : ((groups : List Group) (q : Parameters) (s : RunState) (limit : Option RunFault) → Spells (demo_text seed size) groups → parameters_of groups ≡ Ok q → RunEnds (whole q) s limit → limit ≡ None)
      → (c : Course) → c ≡ whole p → (f : RunFault) (fault : Fault) → fault ≡ fault_of f → IsCutBy c f → (now : Output) → DemoEnds seed size now now fault
  cut-memory no_other c is f fault e (inl memory) now = demo_memory (e ∙ ap fault_of memory) refl
  cut-memory no_other c is f fault e (inr h) now =
      absurd (none-some f (sym (no_other has.groups p h.0 (Some f) has.spelled has.accepted (subst (λ (d : Course). RunEnds d h.0 (Some f)) is h.1))))

  module _ (s : Standing) (is : s.course ≡ whole p) (shown : EndsShown s) (leaves : ℕ) (mesh : List Cube) (count : leaves ≡ length mesh) (on : mesh ≡ s.set.places)
      (few : length p.fields ≤ 4) (bytes : List ℕ) (written : bytes ≡ ledger_summary seed size p leaves s.ledger) where
    -- what was put together is the summary
    pub is-summary : IsSummary seed size bytes
    is-summary = record {
      groups = has.groups;
      parameters = p;
      spells = has.spelled;
      accepted = has.accepted;
      run = shown.run;
      ends = subst (λ (c : Course). RunEnds c shown.run None) is shown.ends;
      is = written ∙ summary-same seed size p shown.run leaves s.ledger shown.ledger shown.totals
          (count ∙ ap (λ (l : List Cube). length l) (on ∙ sym shown.leaves)) (shown.fields ∙ ap (λ (c : Course). length c.parameters.fields) is) few;
    }

    pub demo-done : (counts : AdaptProblem → ℕ → Type 0) (handled : ℕ) → HandlesBy counts s.course handled → (before after : Output) → after ≡ with_actions before (piece bytes ∷ [])
        → DemoDone counts seed size before after handled
    demo-done counts handled counted before after acted = record {
      bytes = bytes;
      is = is-summary;
      acted = acted;
      parameters = p;
      has = has;
      counted = subst (λ (c : Course). HandlesBy counts c handled) is counted;
    }

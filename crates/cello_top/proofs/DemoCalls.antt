-- How a call of `solo` ends, from how the demonstration ends.
use Rattle.std.proofs.Common.{◌≡◌, ◌⊎◌, ℕ, ◌≤◌, List, [], ◌∷◌, Some, None, refl, sym, ap, subst, ◌∙◌, inl, inr}
use Rattle.std.specs.Prelude.{◌↔◌}
use Rattle.std.proofs.lemmas.Option.{same_Some}
use Rattle.adapt_core.specs.Cells.{AdaptProblem}
use Rattle.cello_io.specs.Files.{PastFiles}
use Rattle.demo_params.specs.DemoTexts.{demo_text, most_seed, most_size}
use Rattle.params_check.specs.Parameters.{Parameters}
use Rattle.roomy_runs.specs.Summaries.{IsSummary}
use Rattle.run_core.specs.Courses.{whole}
use Rattle.run_report.specs.Actions.{piece}
use Rattle.run_report.specs.Outputs.{Output, StandsWithin}
use Rattle.run_report.proofs.Prefixes.{within-none}
use Rattle.cello_top.specs.declared.fault.Fault.{Fault}
use Rattle.cello_top.specs.declared.fault.Fault.TheVariants.{Memory, Usage, WriteFault}
use Rattle.cello_top.specs.declared.outcome.Outcome.{Outcome}
use Rattle.cello_top.specs.Answers.{demonstrated, summary_answer}
use Rattle.cello_top.specs.Counts.{HandlesBy}
use Rattle.cello_top.specs.Faults.{CameToWrite, IsAnswered}
use Rattle.cello_top.specs.Solo.{Answers, AnswersInPart}
use Rattle.cello_top.specs.Texts.{HasParameters}
use Rattle.cello_top.specs.Words.{IsCommand, IsDemo}
use Rattle.cello_top.specs.Lemmas.Demonstrating.{DemoDone, DemoEnds, demo_failed, demo_memory}
use Rattle.cello_top.proofs.OneAnswer.{demo-same}
use Rattle.cello_top.proofs.Texts.{HasParameters-one}

module _ (words : List (List ℕ)) (seed size : ℕ) (is : IsDemo words seed size) (before after : Output) where
  -- the summary was written
  pub demo-answer : (counts : AdaptProblem → ℕ → Type 0) (handled : ℕ) (outcome : Outcome) → outcome.fault ≡ None → DemoDone counts seed size before after handled
      → (bytes : List ℕ) (past : PastFiles) → Answers words bytes past outcome before after
  demo-answer counts handled outcome well d bytes past = record {
    answer = summary_answer d.bytes;
    is = demonstrated seed size d.bytes is d.is refl;
    keeps = record { fault = well; acted = d.acted };
  }

  pub demo-handled : (counts : AdaptProblem → ℕ → Type 0) (handled : ℕ) (outcome : Outcome) → outcome.handled ≡ handled → DemoDone counts seed size before after handled
      → (s n : ℕ) (p : Parameters) → IsDemo words s n → HasParameters (demo_text s n) p → HandlesBy counts (whole p) outcome.handled
  demo-handled counts handled outcome e d s n p other has =
      let here : HasParameters (demo_text s n) d.parameters = demo-same words seed size s n (λ k m. HasParameters (demo_text k m) d.parameters) is other d.has in
      let same : d.parameters ≡ p = HasParameters-one (demo_text s n) d.parameters p here has in
      subst (λ k. HandlesBy counts (whole p) k) (sym e) (subst (λ (q : Parameters). HandlesBy counts (whole q) handled) same d.counted)

  -- a part of it was, or nothing
  pub demo-part : ((s n : ℕ) → s ≤ most_seed → 1 ≤ n → n ≤ most_size → (bytes : List ℕ) × IsSummary s n bytes) → (fault : Fault) → DemoEnds seed size before after fault
      → (bytes : List ℕ) (past : PastFiles) → AnswersInPart words bytes past before after
  demo-part sums fault (demo_memory e same) bytes past =
      let s = sums seed size is.seed_within is.some is.size_within in
      record {
        answer = summary_answer s.0;
        is = demonstrated seed size s.0 is s.1 refl;
        part = subst (λ (o : Output). StandsWithin (piece s.0 ∷ []) before o) (sym same) (within-none (piece s.0 ∷ []) before);
      }
  demo-part sums fault (demo_failed summary e sum part) bytes past =
      record { answer = summary_answer summary; is = demonstrated seed size summary is sum refl; part = part }

  -- why it ends otherwise than well
  pub demo-kind : (fault : Fault) → DemoEnds seed size before after fault → (fault ≡ Memory) ⊎ (fault ≡ WriteFault)
  demo-kind fault (demo_memory e same) = inl e
  demo-kind fault (demo_failed summary e sum part) = inr e

  module _ (fault : Fault) (outcome : Outcome) (so : outcome.fault ≡ Some fault) (ends : DemoEnds seed size before after fault) where
    pub demo-other : (g : Fault) → outcome.fault ≡ Some g → (Memory ≡ g → ⊥) → (WriteFault ≡ g → ⊥) → ⊥
    demo-other g e memory write =
        let same : fault ≡ g = same_Some fault g (sym so ∙ e) in
        elim (demo-kind fault ends) [
          | inl m ↦ memory (sym m ∙ same)
          | inr w ↦ write (sym w ∙ same)
        ]

    pub demo-unanswered : IsAnswered outcome.fault → ⊥
    demo-unanswered settled =
        let here : IsAnswered (Some fault) = subst IsAnswered so settled in
        elim (demo-kind fault ends) [
          | inl m ↦ subst (λ (f : Fault). IsAnswered (Some f)) m here
          | inr w ↦ subst (λ (f : Fault). IsAnswered (Some f)) w here
        ]

    pub demo-wrote : CameToWrite outcome.fault
    demo-wrote =
        subst CameToWrite (sym so)
        (elim (demo-kind fault ends) [
          | inl m ↦ subst (λ (f : Fault). CameToWrite (Some f)) (sym m) tt
          | inr w ↦ subst (λ (f : Fault). CameToWrite (Some f)) (sym w) tt
        ])

    pub demo-usage : (outcome.fault ≡ Some Usage) ↔ (IsCommand words → ⊥)
    demo-usage = ((λ told. absurd (demo-other Usage told (λ h. cc) (λ h. cc))), (λ other. absurd (other (inr (inr (seed, size, is))))))

    pub demo-complete : (rose : Type 0) → (fault ≡ WriteFault → rose) → (rose → ⊥) → (outcome.fault ≡ None) ⊎ (outcome.fault ≡ Some Memory)
    demo-complete rose cause no_rise =
        elim (demo-kind fault ends) [
          | inl m ↦ inr (so ∙ ap Some m)
          | inr w ↦ absurd (no_rise (cause w))
        ]

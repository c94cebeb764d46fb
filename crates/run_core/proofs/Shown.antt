-- What a run shows of its state and its ledger.
use Rattle.std.proofs.Common.{◌≡◌, ℕ, ◌+◌, ◌^◌, ◌<◌, ◌≤◌, List, length, sym, ap, ◌∙◌, subst}
use Rattle.std.specs.Prelude.{slice_index}
use Rattle.leaf_set.specs.Tiling.{Tiling}
use Rattle.block_fields.specs.Blocks.{BlockState}
use Rattle.block_fields.specs.States.{IsState, State, total}
use Rattle.initial_fill.specs.RootBlocks.{initial_state}
use Rattle.amount_ledger.specs.Ledgers.{LedgerState}
use Rattle.run_core.specs.declared.step.Stage.{Stage}
use Rattle.run_core.specs.declared.step.Step.{Step}
use Rattle.run_core.specs.declared.step.Step.TheVariants.{Emit}
use Rattle.run_core.specs.Courses.{Course, RunState, totals_of}
use Rattle.run_core.specs.CourseLimits.{IsCourse, KeepsTotals}
use Rattle.run_core.specs.Runs.{blocks_state}
use Rattle.run_core.specs.Works.{EndsIn, HasLedger, HoldNext, HoldState, Standing, standing}
use Rattle.run_core.proofs.OneRun.{Runs-one}
use Rattle.run_core.proofs.RunTotals.{Runs-keeps, total-most}

module _ (c : Course) (w : IsCourse c) (phases : ℕ) (ledger : LedgerState) (has : HasLedger c phases ledger) where
  pub ledger-together : (f : ℕ) → f < length c.parameters.fields → slice_index ledger.total f + slice_index ledger.gone f ≡ total (initial_state c.parameters) f
  ledger-together = subst (λ (l : LedgerState). (f : ℕ) → f < length c.parameters.fields → slice_index l.total f + slice_index l.gone f ≡ total (initial_state c.parameters) f)
      has.is (Runs-keeps c w phases has.run has.runs).together

  pub shown-keeps : (state : State) → EndsIn c phases state → (t : RunState) × KeepsTotals c.parameters t × (t.state ≡ state) × (t.ledger ≡ ledger)
  shown-keeps state ends =
      (ends.run, Runs-keeps c w phases ends.run ends.runs, ends.is, ap (λ (r : RunState). r.ledger) (Runs-one c phases ends.run has.run ends.runs has.runs) ∙ has.is)

-- what blocks show at an emission, where the run was seen as it stands
module _ (c : Course) (w : IsCourse c) (set : Tiling) (ledger : LedgerState) (phase : ℕ) (kind : Step) (stage : Stage) (s : Standing)
    (seen : standing c set ledger phase kind stage ≡ s) (step : s.step ≡ Emit) (has : HasLedger c phase ledger) (shown : List BlockState) (holds : HoldNext s shown) where
  kind-Emit : kind ≡ Emit
  kind-Emit = ap (λ (x : Standing). x.step) seen ∙ step

  here : standing c set ledger phase Emit stage ≡ s
  here = ap (λ (k : Step). standing c set ledger phase k stage) (sym kind-Emit) ∙ seen

  held-here : HoldState Emit c phase set.places shown
  held-here = subst (λ (x : Standing). HoldNext x shown) (sym here) holds

  keeps-here : (t : RunState) × KeepsTotals c.parameters t × (t.state ≡ blocks_state c.parameters shown) × (t.ledger ≡ ledger)
  keeps-here = shown-keeps c w phase ledger has (blocks_state c.parameters shown) held-here.stands

  pub shown-state : IsState (blocks_state s.course.parameters shown)
  shown-state =
      subst (λ (x : Standing). IsState (blocks_state x.course.parameters shown)) here
      (subst (λ (t : State). IsState t) keeps-here.2 keeps-here.1.state)

  pub shown-totals : s.ledger.total ≡ totals_of (blocks_state s.course.parameters shown)
  shown-totals =
      subst (λ (x : Standing). x.ledger.total ≡ totals_of (blocks_state x.course.parameters shown)) here
      (ap (λ (l : LedgerState). l.total) (sym keeps-here.3) ∙ keeps-here.1.totals ∙ ap totals_of keeps-here.2)

  pub shown-most : (f : ℕ) → f < length s.course.parameters.fields → total (blocks_state s.course.parameters shown) f ≤ 2 ^ 40
  shown-most =
      subst (λ (x : Standing). (f : ℕ) → f < length x.course.parameters.fields → total (blocks_state x.course.parameters shown) f ≤ 2 ^ 40) here
      (λ f h. subst (λ (t : State). total t f ≤ 2 ^ 40) keeps-here.2 (total-most c.parameters w.limits keeps-here.0 keeps-here.1 f h))

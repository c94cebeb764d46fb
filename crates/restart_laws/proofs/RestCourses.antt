-- The run that goes on from what a whole run's checkpoint keeps is the rest of that run.
use Rattle.std.proofs.Common.{◌≡◌, ℕ, zero, suc, ◌+◌, nat_lt, List, length, refl, sym, ap, ◌∙◌, subst, arith, inl, inr}
use Rattle.std.specs.Prelude.{slice_index}
use Rattle.std.proofs.lemmas.Bool.{cases_Bool, cases_lt, cond-true, cond-false, le-ltb}
use Rattle.amount_ledger.specs.Ledgers.{for_each, sums}
use Rattle.block_fields.specs.States.{State}
use Rattle.checkpoint.specs.Reading.{state_in}
use Rattle.checkpoint.specs.SavedStates.{AreZeroFrom}
use Rattle.grid_fluxes.specs.BoundaryFlows.{out}
use Rattle.grid_fluxes.specs.Upwind.{upwind}
use Rattle.advect.specs.Flows.{flow_of}
use Rattle.params_check.specs.Parameters.{IsParameters, Parameters}
use Rattle.run_core.specs.CourseLimits.{KeepsTotals}
use Rattle.run_core.specs.Courses.{RunState, going_on, outflow, whole}
use Rattle.run_core.specs.Runs.{RunSteps, Runs, after_cycle, after_round}
use Rattle.run_core.proofs.FieldLists.{for_each-at, within}
use Rattle.run_core.proofs.RunTotals.{Runs-keeps, whole-IsCourse}
use Rattle.run_report.specs.Actions.{kept_state}
use Rattle.restart_laws.specs.Restarts.{rest_of_run}
use Rattle.restart_laws.specs.Resumes.{gone_by, resumed}
use Rattle.restart_laws.proofs.KeptNumbers.{kept-same, past-end}

-- what is gone is a number for each of four fields, and 0 for those that there aren't
pub record GoneKept (fields : ℕ) (gone : List ℕ) : Type 0 where
  pub four : length gone ≡ 4
  pub zeros : AreZeroFrom fields gone

nothing-gone : (fields : ℕ) → GoneKept fields (for_each (λ f. 0))
nothing-gone fields = record {
  four = refl;
  zeros = λ f above. elim (cases_lt f 4) [
    | inl below ↦ for_each-at (λ k. 0) f below
    | inr past ↦ past-end (for_each (λ k. 0)) f past
  ];
}

more-gone : (p : Parameters) (gone : List ℕ) (between : State) → between.fields ≡ length p.fields → GoneKept (length p.fields) gone
    → GoneKept (length p.fields) (sums gone (outflow p between))
more-gone p gone between fields kept =
    let g : ℕ → ℕ = out between (upwind between (flow_of p)) in
    record {
      four = refl;
      zeros = λ f above. elim (cases_lt f 4) [
        | inl below ↦
            let a = for_each-at (λ k. slice_index gone k + slice_index (outflow p between) k) f below in
            let b = for_each-at (λ k. within between.fields k (g k)) f below in
            let c = cond-false (nat_lt f between.fields) (g f) 0 (le-ltb f between.fields (omega (arith, above, fields))) in
            let d = kept.zeros f above in
            omega (arith, a, b, c, d)
        | inr past ↦ past-end (sums gone (outflow p between)) f past
      ];
    }

-- the state that is kept is that of the run
pub kept-state_in : (p : Parameters) (cycle : ℕ) (here : RunState) → KeepsTotals p here → state_in (kept_state p cycle here.state here.ledger) ≡ here.state
kept-state_in p cycle here keeps = λ i. record {
  grid = sym keeps.grid i;
  edge = sym keeps.edge i;
  fields = sym keeps.fields i;
  leaves = here.state.leaves;
  amounts = here.state.amounts;
}

module _ (p : Parameters) (w : IsParameters p) where
  step-gone : (phase : ℕ) (s t : RunState) → KeepsTotals p s → GoneKept (length p.fields) s.ledger.gone → RunSteps p phase s t → GoneKept (length p.fields) t.ledger.gone
  step-gone phase s t keeps kept step =
      let fields : step.between.fields ≡ length p.fields = ap (λ (x : State). x.fields) step.adapts.next ∙ keeps.fields in
      subst (λ (r : RunState). GoneKept (length p.fields) r.ledger.gone) (sym step.goes_on) (elim (cases_Bool (nat_lt p.rounds phase)) [
        | inl true ↦
            subst (λ (r : RunState). GoneKept (length p.fields) r.ledger.gone)
            (sym (cond-true (nat_lt p.rounds phase) (after_cycle p phase s step.between) (after_round p phase s step.between) true))
            (more-gone p s.ledger.gone step.between fields kept)
        | inr false ↦
            subst (λ (r : RunState). GoneKept (length p.fields) r.ledger.gone)
            (sym (cond-false (nat_lt p.rounds phase) (after_cycle p phase s step.between) (after_round p phase s step.between) false)) kept
      ])

  pub runs-gone : (phases : ℕ) (t : RunState) → Runs (whole p) phases t → GoneKept (length p.fields) t.ledger.gone
  runs-gone zero t runs = subst (λ (r : RunState). GoneKept (length p.fields) r.ledger.gone) (sym runs) (nothing-gone (length p.fields))
  runs-gone (suc phases) t runs =
      step-gone ((whole p).ended + suc phases) runs.0 t (Runs-keeps (whole p) (whole-IsCourse p w) phases runs.0 runs.1) (runs-gone phases runs.0 runs.1) runs.2

  -- the course of the kept state
  pub rest-same : (phases cycle : ℕ) (here : RunState) → Runs (whole p) phases here
      → resumed (kept_state p cycle here.state here.ledger) p.cycles ≡ rest_of_run p cycle here
  rest-same phases cycle here runs =
      let gone = runs-gone phases here runs in
      let s : State = here.state in
      ap (λ (x : State). going_on p cycle x (gone_by (kept_state p cycle s here.ledger)) p.cycles)
      (kept-state_in p cycle here (Runs-keeps (whole p) (whole-IsCourse p w) phases here runs))
      ∙ ap (λ (l : List ℕ). going_on p cycle s l p.cycles) (kept-same (length p.fields) here.ledger.gone gone.four gone.zeros)

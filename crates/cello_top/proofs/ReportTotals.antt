-- What a report tells of each cycle balances.
use Rattle.std.proofs.Common.{ℕ, zero, suc, ◌+◌, ◌==◌, cond, nat_lt, Bool, true, false, [], ◌∷◌, All, Option, sym, ap, ◌∙◌, subst, arith, inl, inr}
use Rattle.std.specs.Prelude.{slice_index}
use Rattle.std.proofs.lemmas.Bool.{cases_Bool, cond-true, cond-false}
use Rattle.std.proofs.lemmas.List.Elements.{All-append, All-push}
use Rattle.block_fields.specs.States.{State}
use Rattle.params_check.specs.Parameters.{IsParameters, Parameters}
use Rattle.run_core.specs.declared.fault.RunFault.{RunFault}
use Rattle.run_core.specs.CourseLimits.{KeepsTotals}
use Rattle.run_core.specs.Courses.{RunState, cycle_after, cycle_ended, phases_of, run_start, whole}
use Rattle.run_core.specs.Runs.{RunEnds, Runs, after_all, after_cycle, after_round, after_step, at_limit, told_phase}
use Rattle.run_core.proofs.RunTotals.{Runs-keeps, total-kept, whole-IsCourse, whole-start}
use Rattle.cello_top.specs.Balances.{TellsBalance}

-- a cycle that ends where a run stands
balanced : (p : Parameters) → IsParameters p → (cycle : ℕ) (t : RunState) → KeepsTotals p t → TellsBalance p (cycle_ended cycle t.state t.ledger)
balanced p w cycle t keeps f h = ap (λ n. n + slice_index t.ledger.gone f) (sym (total-kept p w t keeps f h)) ∙ keeps.together f h

nothing : (p : Parameters) → All (TellsBalance p) []
nothing p = λ k d h. absurd (omega (arith, h))

-- where it may be told
balanced-if : (p : Parameters) → IsParameters p → (b : Bool) (t : RunState) → KeepsTotals p t → All (TellsBalance p) (cond b (cycle_ended 0 t.state t.ledger ∷ []) [])
balanced-if p w true t keeps = All-push (TellsBalance p) [] (cycle_ended 0 t.state t.ledger) (nothing p) (balanced p w 0 t keeps)
balanced-if p w false t keeps = nothing p

-- one phase more
after-balances : (p : Parameters) → IsParameters p → (phase : ℕ) (s : RunState) (between : State) → All (TellsBalance p) s.told
    → KeepsTotals p (after_step p phase s between) → All (TellsBalance p) (after_step p phase s between).told
after-balances p w phase s between told keeps =
    let told_so : All (TellsBalance p) (told_phase s phase between) = All-push (TellsBalance p) s.told _ told tt in
    elim (cases_Bool (nat_lt p.rounds phase)) [
      | inl t ↦
          let e = cond-true (nat_lt p.rounds phase) (after_cycle p phase s between) (after_round p phase s between) t in
          let here : KeepsTotals p (after_cycle p phase s between) = subst (KeepsTotals p) e keeps in
          subst (λ (r : RunState). All (TellsBalance p) r.told) (sym e)
          (All-push (TellsBalance p) (told_phase s phase between) _ told_so (balanced p w (cycle_after p phase) (after_cycle p phase s between) here))
      | inr f ↦
          let e = cond-false (nat_lt p.rounds phase) (after_cycle p phase s between) (after_round p phase s between) f in
          let here : KeepsTotals p (after_round p phase s between) = subst (KeepsTotals p) e keeps in
          subst (λ (r : RunState). All (TellsBalance p) r.told) (sym e)
          (All-append (TellsBalance p) (told_phase s phase between) _ told_so (balanced-if p w (phase == p.rounds) (after_round p phase s between) here))
    ]

module _ (p : Parameters) (w : IsParameters p) where
  runs-balance : (phases : ℕ) (t : RunState) → Runs (whole p) phases t → All (TellsBalance p) t.told
  runs-balance zero t runs =
      subst (λ (r : RunState). All (TellsBalance p) r.told) (sym runs) (balanced-if p w (p.rounds == 0) (run_start p) (whole-start p w))
  runs-balance (suc phases) t runs =
      let step = runs.2 in
      let keeps : KeepsTotals p t = Runs-keeps (whole p) (whole-IsCourse p w) (suc phases) t runs in
      subst (λ (r : RunState). All (TellsBalance p) r.told) (sym step.goes_on)
      (after-balances p w ((whole p).ended + suc phases) runs.0 step.between (runs-balance phases runs.0 runs.1) (subst (KeepsTotals p) step.goes_on keeps))

  pub ends-balance : (t : RunState) (limit : Option RunFault) → RunEnds (whole p) t limit → All (TellsBalance p) t.told
  ends-balance t limit (after_all runs is) = runs-balance (phases_of (whole p)) t runs
  ends-balance t limit (at_limit phases fault below runs passes is) = runs-balance phases t runs

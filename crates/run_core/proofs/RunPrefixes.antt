-- A run goes on from where its first phases end, and tells what it told by then.
use Rattle.std.proofs.Common.{◌≡◌, ℕ, zero, suc, ◌+◌, ◌≤◌, nat_lt, List, [], ◌∷◌, ◌++◌, length, Option, refl, sym, ap, ◌∙◌, subst, add-one, append-nil, append_assoc, arith, inl, inr}
use Rattle.std.proofs.lemmas.Bool.{cases_Bool, cases_lt, cases_order, cond-true, cond-false}
use Rattle.block_index.specs.Places.{Cube}
use Rattle.leaf_set.specs.Tiling.{Tiling}
use Rattle.block_fields.specs.States.{State}
use Rattle.amount_ledger.specs.Ledgers.{LedgerState}
use Rattle.params_check.specs.Parameters.{Parameters}
use Rattle.run_core.specs.declared.fault.RunFault.{RunFault}
use Rattle.run_core.specs.declared.step.Stage.{Stage}
use Rattle.run_core.specs.declared.step.Step.{Step}
use Rattle.run_core.specs.declared.step.Step.TheVariants.{Refresh, Wishes, Adapt, RefreshAgain, Advance, Flux, Emit, Ended}
use Rattle.run_core.specs.Courses.{Course, RunState, Told, phase_ended, phases_of}
use Rattle.run_core.specs.Runs.{Adapts, Runs, RunEnds, RunSteps, after_all, after_cycle, after_round, after_step, at_limit, told_phase}
use Rattle.run_core.specs.Works.{AdaptsTo, IsTold, StandsAt, standing}
use Rattle.run_core.proofs.OneRun.{Runs-one, no_limit_within}

-- a list grew behind another
pub record GrewFrom (front all : List Told) : Type 0 where
  pub more : List Told
  pub is : all ≡ front ++ more

grew-more : (front middle all : List Told) (rest : List Told) → middle ≡ front ++ rest → GrewFrom middle all → GrewFrom front all
grew-more front middle all rest is grew =
    record { more = rest ++ grew.more; is = grew.is ∙ ap (λ (l : List Told). l ++ grew.more) is ∙ append_assoc front rest grew.more }

grew-same : (front all : List Told) → all ≡ front → GrewFrom front all
grew-same front all is = record { more = []; is = is ∙ sym (append-nil front) }

-- a step tells its phase, and maybe more behind it
pub told-step : (p : Parameters) (phase : ℕ) (s : RunState) (between : State) → GrewFrom (told_phase s phase between) (after_step p phase s between).told
told-step p phase s between =
    elim (cases_Bool (nat_lt p.rounds phase)) [
      | inl t ↦
          subst (λ (r : RunState). GrewFrom (told_phase s phase between) r.told)
          (sym (cond-true (nat_lt p.rounds phase) (after_cycle p phase s between) (after_round p phase s between) t)) (record { more = _; is = refl })
      | inr f ↦
          subst (λ (r : RunState). GrewFrom (told_phase s phase between) r.told)
          (sym (cond-false (nat_lt p.rounds phase) (after_cycle p phase s between) (after_round p phase s between) f)) (record { more = _; is = refl })
    ]

RunSteps-grew : (p : Parameters) (phase : ℕ) (s t : RunState) → RunSteps p phase s t → GrewFrom s.told t.told
RunSteps-grew p phase s t step =
    let grew : GrewFrom (told_phase s phase step.between) t.told =
    subst (λ (r : RunState). GrewFrom (told_phase s phase step.between) r.told) (sym step.goes_on) (told-step p phase s step.between) in
    grew-more s.told (told_phase s phase step.between) t.told (phase_ended phase (length step.between.leaves) ∷ []) refl grew

module _ (c : Course) where
  same-grew : (phases : ℕ) (s t : RunState) → Runs c phases s → Runs c phases t → GrewFrom s.told t.told
  same-grew phases s t a b = grew-same s.told t.told (ap (λ (u : RunState). u.told) (Runs-one c phases t s b a))

  pub Runs-grew : (all phases : ℕ) (s t : RunState) → phases ≤ all → Runs c phases s → Runs c all t → GrewFrom s.told t.told
  Runs-grew zero phases s t within a b =
      let none : phases ≡ zero = omega arith in
      same-grew zero s t (subst (λ k. Runs c k s) none a) b
  Runs-grew (suc all) phases s t within a b =
      elim (cases_order phases (suc all)) [
        | inl same ↦ same-grew (suc all) s t (subst (λ k. Runs c k s) same a) b
        | inr (inl less) ↦
            let before = Runs-grew all phases s b.0 (omega arith) a b.1 in
            grew-more s.told b.0.told t.told before.more before.is (RunSteps-grew c.parameters (c.ended + suc all) b.0 t b.2)
        | inr (inr more) ↦ absurd (omega arith)
      ]

  pub RunEnds-grew : (phases : ℕ) (s t : RunState) (limit : Option RunFault) → phases ≤ phases_of c → Runs c phases s → RunEnds c t limit
      → GrewFrom s.told t.told
  RunEnds-grew phases s t limit within runs (after_all ran none) = Runs-grew (phases_of c) phases s t within runs ran
  RunEnds-grew phases s t limit within runs (at_limit last f below ran passes is) =
      elim (cases_lt last phases) [
        | inl less ↦ absurd (no_limit_within c phases last s t f less runs ran passes)
        | inr enough ↦ Runs-grew last phases s t (omega arith) runs ran
      ]

-- the phase after so many, by its number
pub next_number : (ended phases : ℕ) → ended + phases + 1 ≡ ended + suc phases
next_number ended phases = omega arith

-- one phase more of a run
pub Runs-step : (c : Course) (phases : ℕ) (s : RunState) (between : State) → Runs c phases s → Adapts c.parameters (c.ended + phases + 1) s.state between
    → Runs c (phases + 1) (after_step c.parameters (c.ended + phases + 1) s between)
Runs-step c phases s between runs adapts =
    let number = next_number c.ended phases in
    let t : RunState = after_step c.parameters (c.ended + phases + 1) s between in
    let step : RunSteps c.parameters (c.ended + suc phases) s t = record {
      between = between;
      adapts = subst (λ k. Adapts c.parameters k s.state between) number adapts;
      goes_on = ap (λ k. after_step c.parameters k s between) number;
    } in
    subst (λ k. Runs c k t) (sym (add-one phases)) (s, runs, step)

module _ (c : Course) (set : Tiling) (ledger : LedgerState) (phase : ℕ) (stage : Stage) (told : List Told) (t : RunState) (limit : Option RunFault)
    (ends : RunEnds c t limit) where
  ended-grew : (run : RunState) → phase ≤ phases_of c → Runs c phase run → told ≡ run.told → GrewFrom told t.told
  ended-grew run within runs is = subst (λ (l : List Told). GrewFrom l t.told) (sym is) (RunEnds-grew c phase run t limit within runs ends)

  adapted-grew : (run : RunState) → phase + 1 ≤ phases_of c → Runs c phase run → (state : State) → AdaptsTo c phase state → state.leaves ≡ set.places
      → told ≡ run.told ++ phase_ended (c.ended + phase + 1) (length set.places) ∷ [] → GrewFrom told t.told
  adapted-grew run within runs state to on is =
      let number : ℕ = c.ended + phase + 1 in
      let next : RunState = after_step c.parameters number to.run state in
      let grew : GrewFrom next.told t.told = RunEnds-grew c (phase + 1) next t limit within (Runs-step c phase to.run state to.runs to.adapts) ends in
      let step = told-step c.parameters number to.run state in
      let same : told ≡ told_phase to.run number state =
      is
      ∙ ap (λ (r : RunState). r.told ++ phase_ended number (length set.places) ∷ []) (Runs-one c phase run to.run runs to.runs)
      ∙ ap (λ (mesh : List Cube). to.run.told ++ phase_ended number (length mesh) ∷ []) (sym on) in
      subst (λ (l : List Told). GrewFrom l t.told) (sym same)
      (grew-more (told_phase to.run number state) next.told t.told step.more step.is grew)

  pub told-grew : (kind : Step) → StandsAt kind c phase set.places → IsTold (standing c set ledger phase kind stage) told → GrewFrom told t.told
  told-grew Refresh at is = ended-grew is.run at.within is.runs is.tells
  told-grew Wishes at is = ended-grew is.run at.within is.runs is.tells
  told-grew Adapt at is = ended-grew is.run at.within is.runs is.tells
  told-grew RefreshAgain at is = adapted-grew is.run at.within is.runs at.state at.stands at.ends_on is.tells
  told-grew Advance at is = adapted-grew is.run at.within is.runs at.state at.stands at.ends_on is.tells
  told-grew Flux at is = adapted-grew is.run at.within is.runs at.state at.stands at.ends_on is.tells
  told-grew Emit at is = grew-more told is.run.told t.told _ is.tells (RunEnds-grew c phase is.run t limit at.within is.runs ends)
  told-grew Ended at is = ended-grew is.run at.within is.runs is.tells

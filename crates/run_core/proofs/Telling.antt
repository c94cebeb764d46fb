-- What is told of a run from step to step.
use Rattle.std.proofs.Common.{◌≡◌, ℕ, List, [], ◌∷◌, ◌++◌, nat_lt, sym, ap, ◌∙◌, subst, inl, inr}
use Rattle.std.proofs.lemmas.Bool.{cases_Bool, cond-true, cond-false}
use Rattle.leaf_set.specs.Tiling.{Tiling}
use Rattle.block_fields.specs.Blocks.{BlockState}
use Rattle.block_fields.specs.States.{State}
use Rattle.amount_ledger.specs.Ledgers.{LedgerState}
use Rattle.run_core.specs.declared.step.Stage.{Stage}
use Rattle.run_core.specs.declared.step.Stage.TheVariants.{Next}
use Rattle.run_core.specs.declared.step.Step.{Step}
use Rattle.run_core.specs.declared.step.Step.TheVariants.{Refresh, Wishes, Adapt, RefreshAgain, Advance, Flux, Emit, Ended}
use Rattle.run_core.specs.Courses.{Course, RunState, Told, cycle_ended, phases_of}
use Rattle.run_core.specs.Runs.{blocks_state}
use Rattle.run_core.specs.Steps.{after_cycle_told}
use Rattle.run_core.specs.Works.{HasLedger, HoldNext, IsTold, Standing, TellsAt, cycle_of, standing}
use Rattle.run_core.proofs.OneRun.{Runs-one}

-- after a cycle was told, all that is told of the run so far was told
told-cycle : (c : Course) (set : Tiling) (ledger : LedgerState) (phase : ℕ) (stage : Stage) (told : List Told) (blocks : List BlockState)
    → HasLedger c phase ledger → IsTold (standing c set ledger phase Emit stage) told → HoldNext (standing c set ledger phase Emit stage) blocks
    → IsTold (standing c set ledger phase (after_cycle_told phase (phases_of c)) Next)
    (told ++ cycle_ended (cycle_of (standing c set ledger phase Emit stage)) (blocks_state c.parameters blocks) ledger ∷ [])
told-cycle c set ledger phase stage told blocks has is holds =
    let run : RunState = is.run in
    let cycle = cycle_of (standing c set ledger phase Emit stage) in
    let state : blocks_state c.parameters blocks ≡ run.state =
    sym holds.stands.is ∙ ap (λ (r : RunState). r.state) (Runs-one c phase holds.stands.run run holds.stands.runs is.runs) in
    let same : ledger ≡ run.ledger = sym has.is ∙ ap (λ (r : RunState). r.ledger) (Runs-one c phase has.run run has.runs is.runs) in
    let all : told ++ cycle_ended cycle (blocks_state c.parameters blocks) ledger ∷ [] ≡ run.told =
    ap (λ (s : State). told ++ cycle_ended cycle s ledger ∷ []) state
    ∙ ap (λ (l : LedgerState). told ++ cycle_ended cycle run.state l ∷ []) same
    ∙ sym is.tells in
    elim (cases_Bool (nat_lt phase (phases_of c))) [
      | inl t ↦
          subst (λ (k : Step). IsTold (standing c set ledger phase k Next) (told ++ cycle_ended cycle (blocks_state c.parameters blocks) ledger ∷ []))
          (sym (cond-true (nat_lt phase (phases_of c)) Refresh Ended t)) (record { run = run; runs = is.runs; tells = all })
      | inr f ↦
          subst (λ (k : Step). IsTold (standing c set ledger phase k Next) (told ++ cycle_ended cycle (blocks_state c.parameters blocks) ledger ∷ []))
          (sym (cond-false (nat_lt phase (phases_of c)) Refresh Ended f)) (record { run = run; runs = is.runs; tells = all })
    ]

-- the same, where the run was seen as it stands
pub told-emitted : (c : Course) (set : Tiling) (ledger : LedgerState) (phase : ℕ) (kind next : Step) (stage : Stage) (s : Standing)
    → standing c set ledger phase kind stage ≡ s → s.step ≡ Emit → next ≡ after_cycle_told phase (phases_of c) → HasLedger c phase ledger
    → (told : List Told) (blocks : List BlockState) → IsTold s told → HoldNext s blocks
    → IsTold (standing c set ledger phase next Next) (told ++ cycle_ended (cycle_of s) (blocks_state s.course.parameters blocks) s.ledger ∷ [])
told-emitted c set ledger phase kind next stage s seen step is has told blocks t h =
    let at : kind ≡ Emit = ap (λ (x : Standing). x.step) seen ∙ step in
    let here : s ≡ standing c set ledger phase Emit stage = sym seen ∙ ap (λ (k : Step). standing c set ledger phase k stage) at in
    subst (λ (x : Standing). IsTold (standing c set ledger phase next Next) (told ++ cycle_ended (cycle_of x) (blocks_state x.course.parameters blocks) x.ledger ∷ []))
    (sym here)
    (subst (λ (k : Step). IsTold (standing c set ledger phase k Next)
    (told ++ cycle_ended (cycle_of (standing c set ledger phase Emit stage)) (blocks_state c.parameters blocks) ledger ∷ [])) (sym is)
    (told-cycle c set ledger phase stage told blocks has (subst (λ (x : Standing). IsTold x told) here t) (subst (λ (x : Standing). HoldNext x blocks) here h)))

-- what was told doesn't depend on whether the work is out
module _ (c : Course) (set : Tiling) (ledger : LedgerState) (phase : ℕ) (one other : Stage) (run : RunState) (told : List Told) where
  same-tells : (k : Step) → TellsAt k (standing c set ledger phase k one) run told → TellsAt k (standing c set ledger phase k other) run told
  same-tells Refresh h = h
  same-tells Wishes h = h
  same-tells Adapt h = h
  same-tells RefreshAgain h = h
  same-tells Advance h = h
  same-tells Flux h = h
  same-tells Emit h = h
  same-tells Ended h = h

pub told-staged : (s t : Standing) (stage : Stage) → t ≡ standing s.course s.set s.ledger s.phase s.step stage → (told : List Told) → IsTold s told → IsTold t told
told-staged s t stage is told h =
    subst (λ (x : Standing). IsTold x told) (sym is) (record {
      run = h.run;
      runs = h.runs;
      tells = same-tells s.course s.set s.ledger s.phase s.stage stage h.run told s.step h.tells;
    })

-- What a phase tells, and what is told last after a cycle.
use Rattle.std.proofs.Common.{◌≡◌, ℕ, zero, suc, ◌+◌, ◌-◌, ◌<◌, ◌≤◌, nat_lt, ◌==◌, List, [], ◌∷◌, ◌++◌, append-nil, refl, sym, ap, ◌∙◌, subst, arith, inl, inr}
use Rattle.std.proofs.lemmas.Bool.{cases_lt, cond-true, cond-false, eq-eqb, le-ltb, lt-ltb, ne_eqb}
use Rattle.block_fields.specs.States.{State}
use Rattle.params_check.specs.Parameters.{Parameters}
use Rattle.run_core.specs.Courses.{RunState, Told, cycle_after, cycle_ended, run_start, whole}
use Rattle.run_core.specs.Runs.{RunSteps, Runs, after_cycle, after_round, told_phase}

-- After what was told with the adapt phase of this number, a step tells that a cycle ended, or nothing more where an initial
-- round is to come.
pub data StepTells (p : Parameters) (phase : ℕ) (front : List Told) (t : RunState) : Type 0 where
  with_cycle : (cycle : ℕ) → phase ≡ p.rounds + cycle → t.told ≡ front ++ cycle_ended cycle t.state t.ledger ∷ [] → StepTells p phase front t
  alone : phase < p.rounds → t.told ≡ front → StepTells p phase front t

module _ (p : Parameters) where
  cycle-tells : (phase : ℕ) (s : RunState) (between : State) → p.rounds < phase → StepTells p phase (told_phase s phase between) (after_cycle p phase s between)
  cycle-tells phase s between later =
      let e : phase ≡ p.rounds + (phase - p.rounds) = omega (arith, later) in
      with_cycle (cycle_after p phase) e refl

  round-tells : (phase : ℕ) (s : RunState) (between : State) → phase ≤ p.rounds → StepTells p phase (told_phase s phase between) (after_round p phase s between)
  round-tells phase s between early =
      let front : List Told = told_phase s phase between in
      let cycle_0 : List Told = cycle_ended 0 between s.ledger ∷ [] in
      elim (cases_lt phase p.rounds) [
        | inl less ↦
            let apart : phase ≡ p.rounds → ⊥ = λ e. omega (arith, e, less) in
            alone less (ap (λ (l : List Told). front ++ l) (cond-false (phase == p.rounds) cycle_0 [] (ne_eqb phase p.rounds apart)) ∙ append-nil front)
        | inr enough ↦
            let last : phase ≡ p.rounds = omega (arith, early, enough) in
            with_cycle 0 (omega (arith, last)) (ap (λ (l : List Told). front ++ l) (cond-true (phase == p.rounds) cycle_0 [] (eq-eqb phase p.rounds last)))
      ]

  pub step-tells : (phase : ℕ) (s t : RunState) → (step : RunSteps p phase s t) → StepTells p phase (told_phase s phase step.between) t
  step-tells phase s t step =
      let front : List Told = told_phase s phase step.between in
      subst (λ (r : RunState). StepTells p phase front r) (sym step.goes_on) (elim (cases_lt p.rounds phase) [
        | inl later ↦
            subst (λ (r : RunState). StepTells p phase front r)
            (sym (cond-true (nat_lt p.rounds phase) (after_cycle p phase s step.between) (after_round p phase s step.between) (lt-ltb p.rounds phase later)))
            (cycle-tells phase s step.between later)
        | inr early ↦
            subst (λ (r : RunState). StepTells p phase front r)
            (sym (cond-false (nat_lt p.rounds phase) (after_cycle p phase s step.between) (after_round p phase s step.between) (le-ltb p.rounds phase early)))
            (round-tells phase s step.between early)
      ])

  -- the beginning of the run tells of cycle 0, where there are no initial rounds, and of nothing elsewhere
  pub start-tells : StepTells p 0 [] (run_start p)
  start-tells =
      let cycle_0 : List Told = cycle_ended 0 (run_start p).state (run_start p).ledger ∷ [] in
      elim (cases_lt 0 p.rounds) [
        | inl some ↦
            let apart : p.rounds ≡ 0 → ⊥ = λ e. omega (arith, e, some) in
            alone some (cond-false (p.rounds == 0) cycle_0 [] (ne_eqb p.rounds 0 apart))
        | inr enough ↦
            let none : p.rounds ≡ 0 = omega (arith, enough) in
            with_cycle 0 (omega (arith, none)) (cond-true (p.rounds == 0) cycle_0 [] (eq-eqb p.rounds 0 none))
      ]

-- the last thing that is told is that the cycle ended, with the state and the ledger of then
pub record TellsCycle (cycle : ℕ) (here : RunState) : Type 0 where
  pub before : List Told
  pub is : here.told ≡ before ++ cycle_ended cycle here.state here.ledger ∷ []

module _ (p : Parameters) where
  last-told : (phase cycle : ℕ) (front : List Told) (t : RunState) → phase ≡ p.rounds + cycle → StepTells p phase front t → TellsCycle cycle t
  last-told phase cycle front t e (with_cycle other is told) =
      let same : other ≡ cycle = omega (arith, e, is) in
      record { before = front; is = told ∙ ap (λ n. front ++ cycle_ended n t.state t.ledger ∷ []) same }
  last-told phase cycle front t e (alone less told) = absurd (omega (arith, e, less))

  pub tells-cycle : (phases cycle : ℕ) (here : RunState) → phases ≡ p.rounds + cycle → Runs (whole p) phases here → TellsCycle cycle here
  tells-cycle zero cycle here e runs =
      subst (λ (r : RunState). TellsCycle cycle r) (sym runs) (last-told 0 cycle [] (run_start p) e (start-tells p))
  tells-cycle (suc phases) cycle here e runs =
      last-told (0 + suc phases) cycle (told_phase runs.0 (0 + suc phases) runs.2.between) here (omega (arith, e)) (step-tells p (0 + suc phases) runs.0 here runs.2)

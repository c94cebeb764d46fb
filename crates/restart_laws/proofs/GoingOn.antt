-- A run that goes on from where the first phases of a whole run end tells what the whole run tells after them.
use Rattle.std.proofs.Common.{◌≡◌, ℕ, zero, suc, ◌+◌, ◌-◌, ◌<◌, ◌≤◌, nat_lt, List, [], ◌∷◌, ◌++◌, Option, Some, None, length, refl, sym, ap, ◌∙◌, subst, append_assoc, append-nil, arith, inl, inr}
use Rattle.std.specs.Prelude.{slice_index}
use Rattle.std.proofs.lemmas.Bool.{cases_lt, cond-true, lt-ltb}
use Rattle.block_fields.specs.States.{State, total}
use Rattle.amount_ledger.specs.Ledgers.{LedgerState, differences, later_ledger, sums}
use Rattle.grid_fluxes.specs.Fluxes.{advanced}
use Rattle.grid_fluxes.specs.Upwind.{upwind}
use Rattle.advect.specs.Flows.{flow_of}
use Rattle.mesh_output.specs.Lines.{cycle_line, field_line}
use Rattle.params_check.specs.Parameters.{IsParameters, Parameters}
use Rattle.run_core.specs.declared.fault.RunFault.{RunFault}
use Rattle.run_core.specs.Courses.{RunState, Told, cycle_after, cycle_ended, outflow, phase_ended, totals_of, whole}
use Rattle.run_core.specs.Runs.{Adapts, PhasePasses, RunEnds, RunSteps, Runs, after_all, after_cycle, after_round, after_step, at_limit}
use Rattle.run_core.proofs.OneRun.{Runs-one, no_limit_within}
use Rattle.run_core.proofs.RunTotals.{Runs-keeps, whole-IsCourse}
use Rattle.run_report.specs.Actions.{Action, actions_of, closing_piece, cycle_files, due_at, later_actions, numbered_pieces, piece, report_actions, told_field}
use Rattle.run_report.proofs.RunActions.{report_actions-append}
use Rattle.restart_laws.specs.Restarts.{GoesOnAlike, rest_of_run}

-- ---- what is written of a cycle, by what left

-- pieces that are the same for each element
pieces-same : {A : Type 0} (line other : ℕ → A → List ℕ) → ((k : ℕ) (x : A) → line k x ≡ other k x) → (k : ℕ) (xs : List A)
    → numbered_pieces line k xs ≡ numbered_pieces other k xs
pieces-same line other each k [] = refl
pieces-same line other each k (x ∷ xs) =
    ap (λ (l : List ℕ). piece l ∷ numbered_pieces line (k + 1) xs) (each k x)
    ∙ ap (λ (l : List Action). piece (other k x) ∷ l) (pieces-same line other each (k + 1) xs)

told_field-same : (s : State) (a b : LedgerState) → a.out ≡ b.out → a.gone ≡ b.gone → (f : ℕ) (name : List ℕ) → told_field s a f name ≡ told_field s b f name
told_field-same s a b out gone f name =
    ap (λ (l : List ℕ). field_line name (total s f) (slice_index l f) (slice_index a.gone f)) out
    ∙ ap (λ (l : List ℕ). field_line name (total s f) (slice_index b.out f) (slice_index l f)) gone

files-same : (p : Parameters) (cycle : ℕ) (s : State) (a b : LedgerState) → a.gone ≡ b.gone
    → cycle_files p (due_at p cycle) cycle s a ≡ cycle_files p (due_at p cycle) cycle s b
files-same p cycle s a b gone =
    ap (λ (l : List ℕ). cycle_files p (due_at p cycle) cycle s (record { initial = []; total = []; out = []; gone = l })) gone

cycle-same : (p : Parameters) (cycle : ℕ) (s : State) (a b : LedgerState) → a.out ≡ b.out → a.gone ≡ b.gone
    → actions_of p (cycle_ended cycle s a) ≡ actions_of p (cycle_ended cycle s b)
cycle-same p cycle s a b out gone =
    let first : Action = piece (cycle_line cycle (length s.leaves)) in
    ap (λ (l : List Action). (first ∷ l) ++ cycle_files p (due_at p cycle) cycle s a)
    (pieces-same (told_field s a) (told_field s b) (told_field-same s a b out gone) 0 p.fields)
    ∙ ap (λ (l : List Action). (first ∷ numbered_pieces (told_field s b) 0 p.fields) ++ l) (files-same p cycle s a b gone)

-- ---- where both stand

-- The whole run and the one that goes on from `here` stand in the same state, with the same totals and the same gone
-- amounts; and what is written of the whole run is what was written of it up to `here`, and then what is of the other.
record Follows (p : Parameters) (here t u : RunState) : Type 0 where
  state : t.state ≡ u.state
  total : t.ledger.total ≡ u.ledger.total
  gone : t.ledger.gone ≡ u.ledger.gone
  told : report_actions p t.told ≡ report_actions p here.told ++ report_actions p u.told

-- what a cycle tells, with its phase
abbrev both_told : ℕ → ℕ → State → State → LedgerState → List Told
both_told phase cycle between next ledger = phase_ended phase (length between.leaves) ∷ cycle_ended cycle next ledger ∷ []

both-same : (p : Parameters) (phase cycle : ℕ) (between next : State) (a b : LedgerState) → a.out ≡ b.out → a.gone ≡ b.gone
    → report_actions p (both_told phase cycle between next a) ≡ report_actions p (both_told phase cycle between next b)
both-same p phase cycle between next a b out gone =
    ap (λ (l : List Action). actions_of p (phase_ended phase (length between.leaves)) ++ (l ++ [])) (cycle-same p cycle next a b out gone)

module _ (p : Parameters) (here : RunState) where
  -- a cycle more
  follows-cycle : (phase : ℕ) (t u : RunState) (between : State) → Follows p here t u → Follows p here (after_cycle p phase t between) (after_cycle p phase u between)
  follows-cycle phase t u between f =
      let next : State = advanced between (upwind between (flow_of p)) in
      let cycle : ℕ = cycle_after p phase in
      let lt : LedgerState = later_ledger t.ledger (outflow p between) in
      let lu : LedgerState = later_ledger u.ledger (outflow p between) in
      let gone : lt.gone ≡ lu.gone = ap (λ (l : List ℕ). sums l (outflow p between)) f.gone in
      let put : (told : List Told) (l : LedgerState)
      → report_actions p ((told ++ phase_ended phase (length between.leaves) ∷ []) ++ cycle_ended cycle next l ∷ [])
      ≡ report_actions p told ++ report_actions p (both_told phase cycle between next l) =
      λ told l. ap (report_actions p) (append_assoc told (phase_ended phase (length between.leaves) ∷ []) (cycle_ended cycle next l ∷ []))
      ∙ report_actions-append p told (both_told phase cycle between next l) in
      record {
        state = refl;
        total = ap (λ (l : List ℕ). differences l (outflow p between)) f.total;
        gone = gone;
        told = put t.told lt
            ∙ ap (λ (l : List Action). l ++ report_actions p (both_told phase cycle between next lt)) f.told
            ∙ append_assoc (report_actions p here.told) (report_actions p u.told) (report_actions p (both_told phase cycle between next lt))
            ∙ ap (λ (l : List Action). report_actions p here.told ++ (report_actions p u.told ++ l)) (both-same p phase cycle between next lt lu refl gone)
            ∙ ap (λ (l : List Action). report_actions p here.told ++ l) (sym (put u.told lu));
      }

  -- a phase behind the initial rounds ends with a cycle
  later-step : (phase : ℕ) (s : RunState) (between : State) → p.rounds < phase → after_step p phase s between ≡ after_cycle p phase s between
  later-step phase s between later =
      cond-true (nat_lt p.rounds phase) (after_cycle p phase s between) (after_round p phase s between) (lt-ltb p.rounds phase later)

  follows-step : (phase number : ℕ) (t u : RunState) (between : State) → number ≡ phase → p.rounds < phase → Follows p here t u
      → Follows p here (after_step p number t between) (after_step p phase u between)
  follows-step phase number t u between same later f =
      let mine : after_step p number t between ≡ after_cycle p phase t between =
      ap (λ k. after_step p k t between) same ∙ later-step phase t between later in
      let cycle : Follows p here (after_cycle p phase t between) (after_cycle p phase u between) = follows-cycle phase t u between f in
      subst (λ (r : RunState). Follows p here r (after_step p phase u between)) (sym mine)
      (subst (λ (r : RunState). Follows p here (after_cycle p phase t between) r) (sym (later-step phase u between later)) cycle)

-- the run that goes on stands where the whole run does
record StandsAlike (p : Parameters) (cycle : ℕ) (here : RunState) (more : ℕ) (t : RunState) : Type 0 where
  rest : RunState
  runs : Runs (rest_of_run p cycle here) more rest
  follows : Follows p here t rest

module _ (p : Parameters) (w : IsParameters p) (cycle : ℕ) (here : RunState) (reached : Runs (whole p) (p.rounds + cycle) here) where
  first-totals : here.ledger.total ≡ totals_of here.state
  first-totals = (Runs-keeps (whole p) (whole-IsCourse p w) (p.rounds + cycle) here reached).totals

  begins : StandsAlike p cycle here zero here
  begins = record {
    rest = (rest_of_run p cycle here).start;
    runs = refl;
    follows = record { state = refl; total = first-totals; gone = refl; told = sym (append-nil (report_actions p here.told)) };
  }

  follow : (more all : ℕ) → all ≡ p.rounds + cycle + more → (t : RunState) → Runs (whole p) all t → StandsAlike p cycle here more t
  follow zero all e t runs =
      let none : all ≡ p.rounds + cycle = omega (arith, e) in
      let same : here ≡ t = Runs-one (whole p) (p.rounds + cycle) here t reached (subst (λ k. Runs (whole p) k t) none runs) in
      subst (StandsAlike p cycle here zero) same begins
  follow (suc more) zero e t runs = absurd (omega (arith, e))
  follow (suc more) (suc all) e t runs =
      let before : StandsAlike p cycle here more runs.0 = follow more all (omega (arith, e)) runs.0 runs.1 in
      let step = runs.2 in
      let same : 0 + suc all ≡ p.rounds + cycle + suc more = omega (arith, e) in
      let later : p.rounds < p.rounds + cycle + suc more = omega arith in
      let u : RunState = before.rest in
      let adapts : Adapts p (p.rounds + cycle + suc more) u.state step.between =
      subst (λ k. Adapts p k u.state step.between) same (subst (λ (s : State). Adapts p (0 + suc all) s step.between) before.follows.state step.adapts) in
      let next : RunState = after_step p (p.rounds + cycle + suc more) u step.between in
      let steps : RunSteps p (p.rounds + cycle + suc more) u next = record { between = step.between; adapts = adapts; goes_on = refl } in
      record {
        rest = next;
        runs = (u, before.runs, steps);
        follows = subst (λ (r : RunState). Follows p here r next) (sym step.goes_on)
            (follows-step p here (p.rounds + cycle + suc more) (0 + suc all) runs.0 u step.between same later before.follows);
      }

  -- what is written up to the end
  all-acted : (t u : RunState) (limit : Option RunFault) → Follows p here t u
      → later_actions p t.told t.state.leaves limit ≡ report_actions p here.told ++ later_actions p u.told u.state.leaves limit
  all-acted t u None f =
      ap (λ (l : List Action). l ++ closing_piece t.state.leaves ∷ []) f.told
      ∙ append_assoc (report_actions p here.told) (report_actions p u.told) (closing_piece t.state.leaves ∷ [])
      ∙ ap (λ (s : State). report_actions p here.told ++ (report_actions p u.told ++ closing_piece s.leaves ∷ [])) f.state
  all-acted t u (Some limit) f = f.told

  alike : (more : ℕ) (t : RunState) (limit : Option RunFault) → (h : StandsAlike p cycle here more t) → RunEnds (rest_of_run p cycle here) h.rest limit
      → GoesOnAlike p cycle here t limit
  alike more t limit h ends = record {
    rest = h.rest;
    ends = ends;
    state = sym h.follows.state;
    acted = all-acted t h.rest limit h.follows;
  }

  pub goes_on_alike : cycle ≤ p.cycles → (t : RunState) (limit : Option RunFault) → RunEnds (whole p) t limit → GoesOnAlike p cycle here t limit
  goes_on_alike within t limit (after_all runs is) =
      let split : p.rounds + p.cycles - 0 ≡ p.rounds + cycle + (p.rounds + p.cycles - (p.rounds + cycle)) = omega (arith, within) in
      let h : StandsAlike p cycle here (p.rounds + p.cycles - (p.rounds + cycle)) t =
      follow (p.rounds + p.cycles - (p.rounds + cycle)) (p.rounds + p.cycles - 0) split t runs in
      alike (p.rounds + p.cycles - (p.rounds + cycle)) t limit h (after_all h.runs is)
  goes_on_alike within t limit (at_limit phases f below runs passes is) =
      elim (cases_lt phases (p.rounds + cycle)) [
        | inl before ↦ absurd (no_limit_within (whole p) (p.rounds + cycle) phases here t f before reached runs passes)
        | inr after ↦
            let below_all : phases < p.rounds + p.cycles - 0 = below in
            let split : phases ≡ p.rounds + cycle + (phases - (p.rounds + cycle)) = omega (arith, after) in
            let h : StandsAlike p cycle here (phases - (p.rounds + cycle)) t = follow (phases - (p.rounds + cycle)) phases split t runs in
            let number : 0 + suc phases ≡ p.rounds + cycle + suc (phases - (p.rounds + cycle)) = omega (arith, after) in
            let short : phases - (p.rounds + cycle) < p.rounds + p.cycles - (p.rounds + cycle) = omega (arith, after, below_all) in
            let passes_too : PhasePasses p (p.rounds + cycle + suc (phases - (p.rounds + cycle))) h.rest.state f =
            subst (λ k. PhasePasses p k h.rest.state f) number (subst (λ (s : State). PhasePasses p (0 + suc phases) s f) h.follows.state passes) in
            alike (phases - (p.rounds + cycle)) t limit h (at_limit (phases - (p.rounds + cycle)) f short h.runs passes_too is)
      ]

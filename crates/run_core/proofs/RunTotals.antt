-- The states of a run and their totals.
use Rattle.std.proofs.Common.{◌≡◌, ℕ, ◌+◌, ◌-◌, ◌^◌, ◌<◌, ◌≤◌, zero, suc, List, cond, length, nat_lt, refl, sym, ap, ◌∙◌, subst, arith, inl, inr}
use Rattle.std.specs.Prelude.{slice_index}
use Rattle.std.proofs.lemmas.Bool.{cases_Bool, cond-true, cond-false, lt-ltb}
use Rattle.leaf_set.specs.LevelRules.{IsSolution}
use Rattle.leaf_set.specs.Meshes.{IsMesh, IsBalanced}
use Rattle.leaf_set.specs.NextMesh.{next_mesh}
use Rattle.leaf_set.specs.RootMesh.{root_mesh}
use Rattle.leaf_set.proofs.RootMeshes.{root_mesh-IsMesh, root_mesh-IsBalanced}
use Rattle.block_fields.specs.Samples.{adapted, sample}
use Rattle.block_fields.specs.States.{State, IsState, held, total}
use Rattle.block_fields.proofs.Adapting.{total-adapted}
use Rattle.block_fields.proofs.FilledStates.{IsState-filled}
use Rattle.block_fields.proofs.RootSums.{root_cells-sum}
use Rattle.block_fields.proofs.Totals.{total-filled}
use Rattle.initial_fill.specs.RootBlocks.{given_by, initial_state}
use Rattle.amount_ledger.specs.Ledgers.{LedgerState, differences, later_ledger}
use Rattle.grid_fluxes.specs.BoundaryFlows.{out}
use Rattle.grid_fluxes.specs.Fluxes.{advanced, finer_across, given, taken}
use Rattle.grid_fluxes.specs.Upwind.{IsCourant, upwind}
use Rattle.grid_fluxes.proofs.UpwindFluxes.{total-upwind}
use Rattle.advect.specs.Flows.{flow_of}
use Rattle.params_check.specs.Parameters.{IsParameters, Parameters, total_of}
use Rattle.run_core.specs.Courses.{Course, RunState, outflow, totals_of, whole}
use Rattle.run_core.specs.CourseLimits.{IsCourse, KeepsTotals}
use Rattle.run_core.specs.Runs.{Adapts, RunSteps, Runs, after_cycle, after_round, phase_wishes}
use Rattle.run_core.proofs.FieldLists.{differences-left, for_each-at, of_fields-at, of_fields-same}
use Rattle.run_core.proofs.PhaseMeshes.{Tiles, adapted-Tiles}

-- the total of a field by the shapes that fill the roots
initial-total : (p : Parameters) (f : ℕ) → f < length p.fields → total (initial_state p) f ≡ total_of p f
initial-total p f h =
    total-filled p.grid p.block (length p.fields) (root_mesh p.grid) (given_by p) f h ∙ root_cells-sum (given_by p f) p.grid p.block

pub initial-shown : (p : Parameters) (f n : ℕ) → f < length p.fields → n ≡ total_of p f → n ≡ cond (nat_lt f (length p.fields)) (total (initial_state p) f) 0
initial-shown p f n h is =
    is ∙ sym (initial-total p f h) ∙ sym (cond-true (nat_lt f (length p.fields)) (total (initial_state p) f) 0 (lt-ltb f (length p.fields) h))

module _ (p : Parameters) (w : IsParameters p) where
  pub courant : IsCourant (flow_of p) p.grid.finest
  courant = record { some = omega (arith, w.some_den); small = w.courant }

  pub initial-IsState : IsState (initial_state p)
  initial-IsState =
      let low = w.block.low in
      IsState-filled p.grid p.block (length p.fields) (root_mesh p.grid) (given_by p) w.domain (root_mesh-IsMesh p.grid w.domain) (omega arith)
      (root_mesh-IsBalanced p.grid)

  pub initial-most : (f : ℕ) → f < length p.fields → total (initial_state p) f ≤ 2 ^ 40
  initial-most f h =
      let most = w.totals f h in
      let same = initial-total p f h in
      omega (arith, same, most)

  field-kept : (f : ℕ) → f < length p.fields → f < 4
  field-kept f h = let few = w.few_fields in omega (arith, few)

  -- the run of parameters begins within its limits
  pub whole-start : KeepsTotals p (whole p).start
  whole-start = record {
    state = initial-IsState;
    grid = refl;
    edge = refl;
    fields = refl;
    totals = refl;
    together = λ f h.
        (let a = of_fields-at (initial_state p) (total (initial_state p)) f h (field-kept f h) in
        let b = for_each-at (λ k. 0) f (field-kept f h) in
        omega (arith, a, b));
  }

  pub whole-IsCourse : IsCourse (whole p)
  whole-IsCourse = record { limits = w; start = whole-start; ended = omega arith; last = w.cycles }

  -- the totals of a state that a run keeps
  pub total-kept : (t : RunState) → KeepsTotals p t → (f : ℕ) → f < length p.fields → slice_index t.ledger.total f ≡ total t.state f
  total-kept t keeps f h =
      ap (λ (l : List ℕ). slice_index l f) keeps.totals
      ∙ of_fields-at t.state (total t.state) f (subst (λ n. f < n) (sym keeps.fields) h) (field-kept f h)

  pub total-together : (t : RunState) → KeepsTotals p t → (f : ℕ) → f < length p.fields → total t.state f + slice_index t.ledger.gone f ≡ total (initial_state p) f
  total-together t keeps f h =
      let all = keeps.together f h in
      let here = total-kept t keeps f h in
      omega (arith, all, here)

  pub total-most : (t : RunState) → KeepsTotals p t → (f : ℕ) → f < length p.fields → total t.state f ≤ 2 ^ 40
  total-most t keeps f h =
      let all = keeps.together f h in
      let here = total-kept t keeps f h in
      let most = initial-most f h in
      omega (arith, all, here, most)

  -- an adapt phase keeps them
  record IsBetween (s : RunState) (between : State) : Type 0 where
    is : IsState between
    grid : between.grid ≡ p.grid
    edge : between.edge ≡ p.block
    fields : between.fields ≡ length p.fields
    totals : (f : ℕ) → f < length p.fields → total between f ≡ total s.state f

  adapted-between : (phase : ℕ) (s : RunState) (between : State) → KeepsTotals p s → Adapts p phase s.state between → IsBetween s between
  adapted-between phase s between keeps adapts =
      let b : State = s.state in
      let levels = adapts.levels in
      let wishes = phase_wishes p phase b in
      let here : Tiles p b.leaves = record {
        domain = w.domain;
        mesh = subst (λ grid. IsMesh grid b.leaves) keeps.grid keeps.state.mesh;
        balanced = subst (λ grid. IsBalanced grid b.leaves) keeps.grid keeps.state.balanced;
      } in
      let tiles : Tiles p between.leaves = adapted-Tiles p phase b between here adapts in
      let solves = subst (λ grid. IsSolution grid b.leaves wishes levels) (sym keeps.grid) adapts.decides.least.solves in
      let mesh : IsMesh b.grid (next_mesh b.leaves levels) =
      subst (λ grid. IsMesh grid (next_mesh b.leaves levels)) (sym keeps.grid) (subst (λ (t : State). IsMesh p.grid t.leaves) adapts.next tiles.mesh) in
      let balanced : IsBalanced b.grid (next_mesh b.leaves levels) =
      subst (λ grid. IsBalanced grid (next_mesh b.leaves levels)) (sym keeps.grid) (subst (λ (t : State). IsBalanced p.grid t.leaves) adapts.next tiles.balanced) in
      let after : IsBetween s (adapted b levels) = record {
        is = IsState-filled b.grid b.edge b.fields (next_mesh b.leaves levels) (sample b) keeps.state.domain mesh keeps.state.edge balanced;
        grid = keeps.grid;
        edge = keeps.edge;
        fields = keeps.fields;
        totals = λ f h. total-adapted b wishes levels f keeps.state solves (subst (λ k. f < k) (sym keeps.fields) h);
      } in
      subst (λ (t : State). IsBetween s t) (sym adapts.next) after

  pub round-keeps : (phase : ℕ) (s : RunState) (between : State) → KeepsTotals p s → Adapts p phase s.state between → KeepsTotals p (after_round p phase s between)
  round-keeps phase s between keeps adapts =
      let b = adapted-between phase s between keeps adapts in
      record {
        state = b.is;
        grid = b.grid;
        edge = b.edge;
        fields = b.fields;
        totals = keeps.totals
            ∙ of_fields-same s.state between (total s.state) (total between) (keeps.fields ∙ sym b.fields)
            (λ f h. sym (b.totals f (subst (λ n. f < n) b.fields h)));
        together = keeps.together;
      }

  -- the ledger has the totals of the state between an adapt phase and its advance
  pub between-keeps : (phase : ℕ) (s : RunState) (between : State) → KeepsTotals p s → Adapts p phase s.state between
      → KeepsTotals p (record { state = between; ledger = s.ledger; told = s.told })
  between-keeps phase s between keeps adapts =
      let kept = round-keeps phase s between keeps adapts in
      record {
        state = kept.state;
        grid = kept.grid;
        edge = kept.edge;
        fields = kept.fields;
        totals = kept.totals;
        together = kept.together;
      }

  pub advance-keeps : (s t : RunState) (between : State) → KeepsTotals p (record { state = between; ledger = s.ledger; told = s.told })
      → t.state ≡ advanced between (upwind between (flow_of p)) → t.ledger ≡ later_ledger s.ledger (outflow p between) → KeepsTotals p t
  advance-keeps s t between kept state ledger =
      let flow = flow_of p in
      let next : State = advanced between (upwind between flow) in
      let slow : IsCourant flow between.grid.finest = subst (λ grid. IsCourant flow grid.finest) (sym kept.grid) courant in
      let balance : (f : ℕ) → f < between.fields → total next f + out between (upwind between flow) f ≡ total between f =
      λ f h. total-upwind between flow f kept.state h slow in
      let later : LedgerState = later_ledger s.ledger (outflow p between) in
      let totals : later.total ≡ totals_of next =
      ap (λ (l : List ℕ). differences l (outflow p between)) kept.totals
      ∙ differences-left between next (total between) (out between (upwind between flow)) (total next) refl balance in
      let gone : (f : ℕ) → f < length p.fields → slice_index later.total f + slice_index later.gone f ≡ total (initial_state p) f =
      λ f h. (let known = subst (λ n. f < n) (sym kept.fields) h in
      let a = ap (λ (l : List ℕ). slice_index l f) totals ∙ of_fields-at next (total next) f known (field-kept f h) in
      let b = for_each-at (λ k. slice_index s.ledger.gone k + slice_index (outflow p between) k) f (field-kept f h) in
      let c = of_fields-at between (out between (upwind between flow)) f known (field-kept f h) in
      let d = balance f known in
      let e = kept.together f h in
      let g = ap (λ (l : List ℕ). slice_index l f) kept.totals ∙ of_fields-at between (total between) f known (field-kept f h) in
      omega (arith, a, b, c, d, e, g)) in
      let across = finer_across between in
      let fluxes = upwind between flow in
      let filled : IsState next =
      IsState-filled between.grid between.edge between.fields between.leaves (λ f c. held between f c - given between across fluxes f c + taken between across fluxes f c)
      kept.state.domain kept.state.mesh kept.state.edge kept.state.balanced in
      let whole_next : KeepsTotals p (record { state = next; ledger = later; told = t.told }) = record {
        state = filled;
        grid = kept.grid;
        edge = kept.edge;
        fields = kept.fields;
        totals = totals;
        together = gone;
      } in
      subst (λ (r : RunState). KeepsTotals p r) (λ i. record { state = sym state i; ledger = sym ledger i; told = t.told }) whole_next

  pub step-keeps : (phase : ℕ) (s t : RunState) → KeepsTotals p s → RunSteps p phase s t → KeepsTotals p t
  step-keeps phase s t keeps step =
      let kept = between-keeps phase s step.between keeps step.adapts in
      subst (λ (r : RunState). KeepsTotals p r) (sym step.goes_on) (elim (cases_Bool (nat_lt p.rounds phase)) [
        | inl true ↦
            subst (λ (r : RunState). KeepsTotals p r)
            (sym (cond-true (nat_lt p.rounds phase) (after_cycle p phase s step.between) (after_round p phase s step.between) true))
            (advance-keeps s (after_cycle p phase s step.between) step.between kept refl refl)
        | inr false ↦
            subst (λ (r : RunState). KeepsTotals p r)
            (sym (cond-false (nat_lt p.rounds phase) (after_cycle p phase s step.between) (after_round p phase s step.between) false))
            (round-keeps phase s step.between keeps step.adapts)
      ])

module _ (c : Course) (w : IsCourse c) where
  pub Runs-keeps : (phases : ℕ) (run : RunState) → Runs c phases run → KeepsTotals c.parameters run
  Runs-keeps zero run runs = subst (λ (t : RunState). KeepsTotals c.parameters t) (sym runs) w.start
  Runs-keeps (suc phases) run runs = step-keeps c.parameters w.limits (c.ended + suc phases) runs.0 run (Runs-keeps phases runs.0 runs.1) runs.2

  pub Runs-IsState : (phases : ℕ) (run : RunState) → Runs c phases run → IsState run.state
  Runs-IsState phases run runs = (Runs-keeps phases run runs).state

  pub Runs-most : (phases f : ℕ) (run : RunState) → Runs c phases run → f < length c.parameters.fields → total run.state f ≤ 2 ^ 40
  Runs-most phases f run runs h = total-most c.parameters w.limits run (Runs-keeps phases run runs) f h

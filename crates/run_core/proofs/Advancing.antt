-- The flux correction of a run's blocks: how it begins, what leaves the domain, and the blocks at its end.
use Rattle.std.proofs.Common.{◌≡◌, ℕ, ◌<◌, ◌≤◌, List, Some, nat_lt, length, map, sym, ap, ◌∙◌, subst, inl, inr}
use Rattle.std.specs.Prelude.{slice_get, slice_index}
use Rattle.std.proofs.lemmas.Bool.{cases_Bool, cond-true, cond-false, ltb-true, ltb-false}
use Rattle.block_index.specs.Places.{Cube, Grid}
use Rattle.leaf_set.specs.Tiling.{IsTiling, Tiling}
use Rattle.block_fields.specs.Blocks.{BlockState}
use Rattle.block_fields.specs.BlockStates.{AreBlocksOf, IsBlockOf, state_before, state_of}
use Rattle.block_fields.specs.States.{State}
use Rattle.block_fields.proofs.FilledStates.{at-map, map-at}
use Rattle.initial_fill.specs.RootBlocks.{root_depth}
use Rattle.amount_ledger.specs.Ledgers.{for_each}
use Rattle.grid_fluxes.specs.BoundaryFlows.{out}
use Rattle.grid_fluxes.specs.Fluxes.{Fluxes, advanced}
use Rattle.grid_fluxes.specs.Upwind.{upwind}
use Rattle.advect.specs.FaceFluxes.{FaceFluxState}
use Rattle.advect.specs.Flows.{flow_of}
use Rattle.flux_register.specs.Cells.{FluxPart, FluxProblem, Setting, state_in, unadvanced}
use Rattle.flux_register.specs.Made.{AreAdvancedBy, AreUpwindAdvanced, IsMadeBy}
use Rattle.flux_register.proofs.Upwind.{state-before, upwind-advanced}
use Rattle.params_check.specs.Parameters.{IsParameters, Parameters}
use Rattle.run_core.specs.Courses.{outflow}
use Rattle.run_core.specs.Runs.{AreBlocksFor, blocks_state}
use Rattle.run_core.specs.Works.{flux_setting_of}
use Rattle.run_core.specs.Lemmas.Advances.{AreAdvancedBlocks}
use Rattle.run_core.proofs.FieldLists.{for_each-same, within}

module _ (p : Parameters) (w : IsParameters p) (set : Tiling) (blocks : List BlockState) (faces : List FaceFluxState) (grid : set.grid ≡ p.grid)
    (a : AreAdvancedBlocks p set.places blocks faces) where
  tiling : IsTiling (record { grid = p.grid; places = set.places })
  tiling =
      let s = a.limits.state in
      subst (λ (mesh : List Cube). IsTiling (record { grid = p.grid; places = mesh })) a.are.places
      (record { domain = s.domain; mesh = s.mesh; balanced = s.balanced })

  abbrev pub fluxes : Fluxes
  fluxes = upwind (blocks_state p a.befores) (flow_of p)

  advanced-here : AreAdvancedBy p.grid set.places p.block (length p.fields) root_depth blocks faces fluxes
  advanced-here = upwind-advanced p set.places root_depth a.befores w tiling a.are a.limits.few a.around blocks faces a.advanced

  pub advanced-set : AreAdvancedBy set.grid set.places p.block (length p.fields) root_depth blocks faces fluxes
  advanced-set =
      subst (λ (g : Grid). AreAdvancedBy g set.places p.block (length p.fields) root_depth blocks faces fluxes) (sym grid) advanced-here

  pub advanced-sizes : AreBlocksOf set.places p.block (length p.fields) root_depth blocks
  advanced-sizes = advanced-here.sizes

  pub setting-advanced : (setting : Setting) → setting ≡ record { grid = set.grid; edge = p.block; fields = length p.fields } → setting ≡ flux_setting_of p
  setting-advanced setting is = is ∙ ap (λ (g : Grid). record { grid = g; edge = p.block; fields = length p.fields }) grid

  pub state-advanced : (problem : FluxProblem) → state_in problem ≡ state_before set.grid p.block (length p.fields) blocks
      → (befores : List BlockState) → AreUpwindAdvanced p befores blocks faces → state_in problem ≡ blocks_state p befores
  state-advanced problem is befores made =
      is ∙ ap (λ (g : Grid). state_before g p.block (length p.fields) blocks) grid ∙ state-before p befores blocks faces made p.grid p.block (length p.fields)

  pub made-advanced : (problem : FluxProblem) → state_in problem ≡ state_before set.grid p.block (length p.fields) blocks → IsMadeBy problem fluxes
      → IsMadeBy problem (upwind (state_in problem) (flow_of p))
  made-advanced problem is made =
      subst (λ (s : State). IsMadeBy problem (upwind s (flow_of p))) (sym (state-advanced problem is a.befores a.advanced)) made

  pub depths-advanced : (problem : FluxProblem) → map (λ (k : FluxPart). k.before) problem.parts ≡ map unadvanced blocks
      → (i : ℕ) (k : FluxPart) → slice_get problem.parts i ≡ Some k → k.before.depth ≡ root_depth
  depths-advanced problem same i k at =
      let there : slice_get (map unadvanced blocks) i ≡ Some k.before =
      ap (λ (xs : List BlockState). slice_get xs i) (sym same) ∙ at-map (λ (k : FluxPart). k.before) problem.parts i k at in
      let found = map-at unadvanced blocks i k.before there in
      ap (λ (b : BlockState). b.depth) found.2 ∙ (advanced-here.sizes.each i found.0 found.1).same_depth

-- ---- what leaves the domain

pub outflow-listed : (p : Parameters) (problem : FluxProblem) (left : List ℕ) → problem.setting ≡ flux_setting_of p
    → ((f : ℕ) → f < problem.setting.fields → slice_index left f ≡ out (state_in problem) (upwind (state_in problem) (flow_of p)) f)
    → ((f : ℕ) → problem.setting.fields ≤ f → slice_index left f ≡ 0) → for_each (λ f. slice_index left f) ≡ outflow p (state_in problem)
outflow-listed p problem left setting some none =
    let s : State = state_in problem in
    let given : ℕ → ℕ = out s (upwind s (flow_of p)) in
    for_each-same (λ f. slice_index left f) (λ f. within s.fields f (given f))
    (λ f h. elim (cases_Bool (nat_lt f s.fields)) [
      | inl t ↦ some f (ltb-true f s.fields t) ∙ sym (cond-true (nat_lt f s.fields) (given f) 0 t)
      | inr over ↦ none f (ltb-false f s.fields over) ∙ sym (cond-false (nat_lt f s.fields) (given f) 0 over)
    ])

-- ---- the blocks at the end

module _ (p : Parameters) (problem : FluxProblem) (setting : problem.setting ≡ flux_setting_of p) (blocks : List BlockState)
    (depths : (i : ℕ) (k : FluxPart) → slice_get problem.parts i ≡ Some k → k.before.depth ≡ root_depth)
    (before : map unadvanced blocks ≡ map (λ (k : FluxPart). k.before) problem.parts)
    (sizes : (i : ℕ) (b : BlockState) → slice_get blocks i ≡ Some b → IsBlockOf problem.setting.edge problem.setting.fields b.depth b)
    (state : state_of problem.setting.grid problem.setting.edge problem.setting.fields blocks ≡ advanced (state_in problem) (upwind (state_in problem) (flow_of p))) where
  pub state-corrected : blocks_state p blocks ≡ advanced (state_in problem) (upwind (state_in problem) (flow_of p))
  state-corrected = ap (λ (s : Setting). state_of s.grid s.edge s.fields blocks) (sym setting) ∙ state

  pub AreBlocksFor-corrected : AreBlocksFor p (state_in problem).leaves blocks
  AreBlocksFor-corrected = record {
    places = ap (λ (s : State). s.leaves) state;
    each = λ i b at.
        (let there : slice_get (map (λ (k : FluxPart). k.before) problem.parts) i ≡ Some (unadvanced b) =
        ap (λ (xs : List BlockState). slice_get xs i) (sym before) ∙ at-map unadvanced blocks i b at in
        let found = map-at (λ (k : FluxPart). k.before) problem.parts i (unadvanced b) there in
        let deep : b.depth ≡ root_depth = ap (λ (x : BlockState). x.depth) found.2 ∙ depths i found.0 found.1 in
        let one : IsBlockOf p.block (length p.fields) b.depth b = subst (λ (s : Setting). IsBlockOf s.edge s.fields b.depth b) setting (sizes i b at) in
        subst (λ d. IsBlockOf p.block (length p.fields) d b) deep one);
  }

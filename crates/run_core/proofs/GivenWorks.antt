-- The works that a run gives out.
use Rattle.std.proofs.Common.{◌≡◌, ℕ, ◌+◌, ◌<◌, ◌⊎◌, List, Some, length, refl, sym, ap, ◌∙◌, subst, inl, inr}
use Rattle.std.specs.Prelude.{slice_get}
use Rattle.std.proofs.lemmas.List.{length-map}
use Rattle.block_index.specs.Places.{Cube, Grid}
use Rattle.block_index.specs.declared.wish.Wish.{Wish}
use Rattle.leaf_set.specs.Tiling.{IsTiling, Tiling}
use Rattle.block_fields.specs.Blocks.{BlockState}
use Rattle.block_fields.specs.States.{IsState, State}
use Rattle.block_fields.proofs.FilledStates.{at-map}
use Rattle.initial_fill.specs.RootBlocks.{root_depth}
use Rattle.amount_ledger.specs.Ledgers.{LedgerState}
use Rattle.adapt_core.specs.Cells.{LeafState}
use Rattle.adapt_core.specs.Problem.{AdaptBegins, mesh_of, problem_of, wishes_of}
use Rattle.advect.specs.FaceFluxes.{FaceFluxState}
use Rattle.flux_register.specs.Cells as flux
use Rattle.flux_register.specs.Made.{AreUpwindAdvanced, IsMadeBy}
use Rattle.flux_register.specs.Problem.{FluxFixBegins}
use Rattle.flux_register.proofs.Upwind.{holds-small}
use Rattle.grid_fluxes.specs.Upwind.{upwind}
use Rattle.advect.specs.Flows.{flow_of}
use Rattle.params_check.specs.Parameters.{Parameters}
use Rattle.criteria.specs.Wishes.{wish_of}
use Rattle.run_core.specs.declared.fault.RunFault.{RunFault}
use Rattle.run_core.specs.declared.fault.RunFault.TheVariants.{Memory}
use Rattle.run_core.specs.declared.step.Stage.{Stage}
use Rattle.run_core.specs.declared.step.Stage.TheVariants.{Next, Out}
use Rattle.run_core.specs.declared.step.Step.{Step}
use Rattle.run_core.specs.declared.step.Step.TheVariants.{Refresh, Wishes, Adapt, RefreshAgain, Advance, Flux, Ended}
use Rattle.run_core.specs.Courses.{Course, RunState, phases_of}
use Rattle.run_core.specs.CourseLimits.{IsCourse}
use Rattle.run_core.specs.PlainCounts.{CountsPhases}
use Rattle.run_core.specs.Runs.{AreBlocksFor, KeepsLevelLimit, PassesLimit, PhasePasses, Runs, after_all, at_limit, blocks_state, phase_wishes}
use Rattle.run_core.specs.Works.{AreWishes, AreWithinLimits, HoldState, IsAdapt, IsAdvance, IsEnd, IsFlux, IsRefreshStep, IsStateAt, IsWishes, LimitEnds, Standing, StandsAt, flux_setting_of, standing}
use Rattle.run_core.specs.Lemmas.Keeping.{AtEnd, BeforeAdapt, BeforeAdvance, BeforeFlux, BeforeWishes, DuringAdapt, Hands, KeepsAt, KeepsNext, KeepsOut, KeepsRun}
use Rattle.run_core.proofs.Keeping.{blocks-within}
use Rattle.run_core.proofs.OneRun.{Runs-one}
use Rattle.run_core.proofs.RunPrefixes.{next_number}

module _ (c : Course) (w : IsCourse c) (set : Tiling) (ledger : LedgerState) (phase : ℕ) (blocks shown : List BlockState) (same : shown ≡ blocks) where
  abbrev p : Parameters
  p = c.parameters

  -- blocks for their wishes
  given-wishes : BeforeWishes c phase set.places blocks → IsWishes (standing c set ledger phase Wishes Out) blocks
  given-wishes kept = record {
    step = refl;
    more = kept.more;
    holds = kept.holds;
    around = kept.around;
    limits = blocks-within c w phase blocks Wishes kept.holds.stands;
  }

  pub IsWishes-given : (kind : Step) → kind ≡ Wishes → BeforeWishes c phase set.places blocks → IsWishes (standing c set ledger phase kind Out) shown
  IsWishes-given kind is kept =
      subst (λ (k : Step). IsWishes (standing c set ledger phase k Out) shown) (sym is)
      (subst (λ (bs : List BlockState). IsWishes (standing c set ledger phase Wishes Out) bs) (sym same) (given-wishes kept))

  -- blocks for their advance
  given-advance : BeforeAdvance c phase set.places blocks → IsAdvance (standing c set ledger phase Advance Out) blocks
  given-advance kept =
      let limits : AreWithinLimits p blocks = blocks-within c w phase blocks Advance kept.holds.stands in
      let are : AreBlocksFor p set.places blocks = kept.holds.are_blocks in
      let state : IsState (blocks_state p blocks) = limits.state in
      let tiling : IsTiling (record { grid = p.grid; places = set.places }) =
      subst (λ (mesh : List Cube). IsTiling (record { grid = p.grid; places = mesh })) are.places
      (record { domain = state.domain; mesh = state.mesh; balanced = state.balanced }) in
      record {
        step = refl;
        more = kept.cycle.more;
        holds = kept.holds;
        around = kept.around;
        limits = limits;
        inside = λ i b at. state.mesh.inside i b.place (at-map (λ (b : BlockState). b.place) blocks i b at);
        small = λ i b at. holds-small p set.places root_depth blocks w.limits tiling are limits.few kept.around i b at;
      }

  pub IsAdvance-given : (kind : Step) → kind ≡ Advance → BeforeAdvance c phase set.places blocks → IsAdvance (standing c set ledger phase kind Out) shown
  IsAdvance-given kind is kept =
      subst (λ (k : Step). IsAdvance (standing c set ledger phase k Out) shown) (sym is)
      (subst (λ (bs : List BlockState). IsAdvance (standing c set ledger phase Advance Out) bs) (sym same) (given-advance kept))

-- ---- a refresh

module _ (c : Course) (phase : ℕ) (mesh : List Cube) where
  pub record RefreshKept (kind : Step) (hands : Hands) : Type 0 where
    pub more : phase < phases_of c
    pub holds : HoldState kind c phase mesh hands.blocks
    pub out : (new : Hands) → KeepsOut kind c phase mesh new

  pub refresh-kept : (hands : Hands) (kind : Step) → IsRefreshStep kind → KeepsNext kind c phase mesh hands → RefreshKept kind hands
  refresh-kept hands kind is keeps =
      elim is [
        | inl first ↦
            let kept = subst (λ (k : Step). KeepsNext k c phase mesh hands) first keeps in
            let all : RefreshKept Refresh hands = record { more = kept.more; holds = kept.holds; out = λ new. record { more = kept.more } } in
            subst (λ (k : Step). RefreshKept k hands) (sym first) all
        | inr again ↦
            let kept = subst (λ (k : Step). KeepsNext k c phase mesh hands) again keeps in
            let all : RefreshKept RefreshAgain hands = record { more = kept.cycle.more; holds = kept.holds; out = λ new. kept.cycle } in
            subst (λ (k : Step). RefreshKept k hands) (sym again) all
      ]

-- the same, where the run was seen as it stands
pub kept-refresh : (c : Course) (set : Tiling) (ledger : LedgerState) (phase : ℕ) (hands : Hands) (kind : Step) (stage : Stage) (s : Standing)
    → standing c set ledger phase kind stage ≡ s → s.stage ≡ Next → IsRefreshStep s.step → KeepsRun c set ledger phase kind stage hands
    → RefreshKept c phase set.places kind hands
kept-refresh c set ledger phase hands kind stage s seen next step keeps =
    refresh-kept c phase set.places hands kind (subst (λ (x : Standing). IsRefreshStep x.step) (sym seen) step)
    (subst (λ (g : Stage). KeepsAt g kind c phase set.places hands) (ap (λ (x : Standing). x.stage) seen ∙ next) keeps.keeps)

-- ---- an adapt phase

module _ (c : Course) (phase : ℕ) (mesh : List Cube) (blocks : List BlockState) (wishes : List Wish) (holds : HoldState Adapt c phase mesh blocks)
    (asked : AreWishes c phase wishes) where
  abbrev state : State
  state = blocks_state c.parameters blocks

  abbrev number : ℕ
  number = c.ended + phase + 1

  -- the wishes are those of the state that the blocks hold
  pub wishes-blocks : wishes ≡ phase_wishes c.parameters number state
  wishes-blocks =
      asked.are
      ∙ ap (λ (r : RunState). phase_wishes c.parameters number r.state) (Runs-one c phase asked.run holds.stands.run asked.runs holds.stands.runs)
      ∙ ap (λ (s : State). phase_wishes c.parameters number s) holds.stands.is

  pub wishes-one_each : length wishes ≡ length mesh
  wishes-one_each =
      ap (λ (ws : List Wish). length ws) wishes-blocks ∙ length-map state.leaves (wish_of number c.parameters.criteria state)
      ∙ ap (λ (places : List Cube). length places) holds.are_blocks.places

  -- other wishes of the phase are the same
  pub wishes-same : (others : List Wish) → AreWishes c phase others → wishes ≡ others
  wishes-same others b =
      asked.are
      ∙ ap (λ (r : RunState). phase_wishes c.parameters number r.state) (Runs-one c phase asked.run b.run asked.runs b.runs)
      ∙ sym b.are

  pub wishes-limit : (others : List Wish) → AreWishes c phase others → KeepsLevelLimit c.parameters mesh wishes → KeepsLevelLimit c.parameters mesh others
  wishes-limit others b keeps = subst (λ (ws : List Wish). KeepsLevelLimit c.parameters mesh ws) (wishes-same others b) keeps

  -- a limit that the phase passes ends the run
  pub limit-ends : (set : Tiling) (ledger : LedgerState) (stage : Stage) (fault : RunFault) → set.places ≡ mesh → phase < phases_of c
      → PassesLimit c.parameters number mesh wishes fault → LimitEnds (standing c set ledger phase Adapt stage) fault
  limit-ends set ledger stage fault on more passes told is =
      let run : RunState = is.run in
      let same : holds.stands.run ≡ run = Runs-one c phase holds.stands.run run holds.stands.runs is.runs in
      let here : state ≡ run.state = sym holds.stands.is ∙ ap (λ (r : RunState). r.state) same in
      let a : PassesLimit c.parameters number state.leaves wishes fault =
      subst (λ (places : List Cube). PassesLimit c.parameters number places wishes fault) (sym holds.are_blocks.places) passes in
      let b : PhasePasses c.parameters number state fault =
      subst (λ (ws : List Wish). PassesLimit c.parameters number state.leaves ws fault) wishes-blocks a in
      let d : PhasePasses c.parameters number run.state fault = subst (λ (s : State). PhasePasses c.parameters number s fault) here b in
      record {
        run = run;
        ends = at_limit phase fault more is.runs (subst (λ k. PhasePasses c.parameters k run.state fault) (next_number c.ended phase) d) refl;
        tells = sym is.tells;
        leaves = ap (λ (s : State). s.leaves) (sym here) ∙ holds.are_blocks.places ∙ sym on;
      }

pub limit-seen : (c : Course) (set : Tiling) (ledger : LedgerState) (phase numbered : ℕ) (kind : Step) (stage : Stage) (s : Standing) (blocks : List BlockState)
    (wishes : List Wish) (fault : RunFault) → standing c set ledger phase kind stage ≡ s → s.step ≡ Adapt → numbered ≡ c.ended + phase + 1 → phase < phases_of c
    → HoldState Adapt c phase set.places blocks → AreWishes c phase wishes
    → (fault ≡ Memory) ⊎ PassesLimit c.parameters numbered set.places wishes fault → (fault ≡ Memory) ⊎ LimitEnds s fault
limit-seen c set ledger phase numbered kind stage s blocks wishes fault seen step is_next more holds asked ended =
    elim ended [
      | inl memory ↦ inl memory
      | inr passes ↦
          let is : kind ≡ Adapt = ap (λ (x : Standing). x.step) seen ∙ step in
          let here : standing c set ledger phase Adapt stage ≡ s = ap (λ (k : Step). standing c set ledger phase k stage) (sym is) ∙ seen in
          let ends = limit-ends c phase set.places blocks wishes holds asked set ledger stage fault refl more
          (subst (λ k. PassesLimit c.parameters k set.places wishes fault) is_next passes) in
          inr (subst (λ (x : Standing). LimitEnds x fault) here ends)
    ]

-- ---- the flux correction

-- the blocks and their fluxes as they were taken out
pub AreUpwindAdvanced-kept : (p : Parameters) (befores blocks shown : List BlockState) (faces read : List FaceFluxState) → blocks ≡ shown → faces ≡ read
    → AreUpwindAdvanced p befores blocks faces → AreUpwindAdvanced p befores shown read
AreUpwindAdvanced-kept p befores blocks shown faces read a b is =
    subst (λ (qs : List FaceFluxState). AreUpwindAdvanced p befores shown qs) b (subst (λ (bs : List BlockState). AreUpwindAdvanced p befores bs faces) a is)

pub IsFlux-given : (c : Course) (set : Tiling) (ledger : LedgerState) (phase : ℕ) (kind : Step) (blocks : List BlockState) (faces : List FaceFluxState)
    (setting : flux.Setting) (cells : List flux.FluxState) → kind ≡ Flux → (kept : BeforeFlux c phase set.places blocks faces)
    → (flux.problem_of setting cells).setting ≡ flux_setting_of c.parameters
    → flux.state_in (flux.problem_of setting cells) ≡ blocks_state c.parameters kept.advanced.befores
    → ((i : ℕ) (k : flux.FluxPart) → slice_get (flux.problem_of setting cells).parts i ≡ Some k → k.before.depth ≡ root_depth)
    → IsMadeBy (flux.problem_of setting cells) (upwind (flux.state_in (flux.problem_of setting cells)) (flow_of c.parameters))
    → FluxFixBegins (flux.problem_of setting cells) cells → IsFlux (standing c set ledger phase kind Out) setting cells
IsFlux-given c set ledger phase kind blocks faces setting cells is kept same state depths made begins =
    let holds = kept.advanced.holds in
    let given : IsFlux (standing c set ledger phase Flux Out) setting cells = record {
      step = refl;
      more = kept.cycle.more;
      problem = record {
        setting = same;
        places = ap (λ (s : State). s.leaves) state ∙ holds.are_blocks.places;
        depths = depths;
        stands = subst (λ (s : State). IsStateAt Flux c phase s) (sym state) holds.stands;
        made = made;
      };
      begins = begins;
    } in
    subst (λ (k : Step). IsFlux (standing c set ledger phase k Out) setting cells) (sym is) given

-- ---- the end

pub IsEnd-given : (c : Course) (set : Tiling) (ledger : LedgerState) (phase : ℕ) (kind : Step) (stage : Stage) (s : Standing)
    → standing c set ledger phase kind stage ≡ s → kind ≡ Ended → AtEnd c phase → StandsAt kind c phase set.places → IsEnd s
IsEnd-given c set ledger phase kind stage s seen is at stands =
    let here : StandsAt Ended c phase set.places = subst (λ (k : Step). StandsAt k c phase set.places) is stands in
    let ended : IsEnd (standing c set ledger phase Ended stage) = record {
      step = refl;
      all = at.all;
      ends = λ told t. record {
        run = t.run;
        ends = after_all (subst (λ n. Runs c n t.run) at.all t.runs) refl;
        tells = sym t.tells;
        leaves = ap (λ (r : RunState). r.state.leaves) (Runs-one c phase t.run here.stands.run t.runs here.stands.runs)
            ∙ ap (λ (x : State). x.leaves) here.stands.is
            ∙ here.ends_on;
      };
      counts = λ handled counts. subst (λ n. CountsPhases c n handled) at.all counts;
    } in
    subst (λ (x : Standing). IsEnd x) (ap (λ (k : Step). standing c set ledger phase k stage) (sym is) ∙ seen) ended

-- ---- an adapt phase, as it begins

pub IsAdapt-given : (c : Course) (set : Tiling) (ledger : LedgerState) (phase : ℕ) (kind : Step) (wishes read : List Wish) (grid : Grid) (cells : List LeafState)
    → kind ≡ Adapt → phase < phases_of c → AreWishes c phase wishes → read ≡ wishes → KeepsLevelLimit c.parameters set.places read
    → (problem_of grid cells).grid ≡ set.grid → mesh_of (problem_of grid cells) ≡ set.places → wishes_of (problem_of grid cells) ≡ read
    → AdaptBegins (problem_of grid cells) cells → IsAdapt (standing c set ledger phase kind Out) grid cells
IsAdapt-given c set ledger phase kind wishes read grid cells is more asked same limit on_grid on_mesh by begins =
    let given : IsAdapt (standing c set ledger phase Adapt Out) grid cells = record {
      step = refl;
      more = more;
      level_limit = subst (λ (ws : List Wish). KeepsLevelLimit c.parameters set.places ws) (sym by) limit;
      problem = record {
        grid = on_grid;
        places = on_mesh;
        wishes = subst (λ (ws : List Wish). AreWishes c phase ws) (sym (by ∙ same)) asked;
      };
      begins = begins;
    } in
    subst (λ (k : Step). IsAdapt (standing c set ledger phase k Out) grid cells) (sym is) given

pub DuringAdapt-given : (c : Course) (phase : ℕ) (mesh : List Cube) (hands : Hands) (kind : Step) (read : List Wish) → kind ≡ Adapt
    → BeforeAdapt c phase mesh hands.blocks hands.wishes → read ≡ hands.wishes → KeepsLevelLimit c.parameters mesh read → KeepsOut kind c phase mesh hands
DuringAdapt-given c phase mesh hands kind read is kept same limit =
    let during : DuringAdapt c phase mesh hands.blocks hands.wishes = record {
      more = kept.more;
      holds = kept.holds;
      asked = kept.asked;
      level_limit = subst (λ (ws : List Wish). KeepsLevelLimit c.parameters mesh ws) same limit;
    } in
    subst (λ (k : Step). KeepsOut k c phase mesh hands) (sym is) during

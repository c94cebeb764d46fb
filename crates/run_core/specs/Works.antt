-- A run as a sequence of works: where it stands, what was told by then, and what each work is.
use Rattle.std.specs.Prelude.{◌≡◌, ℕ, ◌+◌, ◌-◌, ◌^◌, ◌<◌, ◌≤◌, ◌⊎◌, List, [], ◌∷◌, ◌++◌, Option, None, Some, length, slice_get}
use Rattle.block_index.specs.Places.{Cube, Grid, IsInside}
use Rattle.block_index.specs.declared.wish.Wish.{Wish}
use Rattle.leaf_set.specs.Tiling.{Tiling}
use Rattle.block_fields.specs.Blocks.{BlockState}
use Rattle.block_fields.specs.BlockStates.{HoldsSamples}
use Rattle.block_fields.specs.States.{IsState, State, total}
use Rattle.initial_fill.specs.RootBlocks.{root_depth}
use Rattle.adapt_core.specs.Cells.{LeafState, AdaptProblem}
use Rattle.adapt_core.specs.Problem.{mesh_of, wishes_of, problem_of, AdaptBegins}
use Rattle.refresh_phase.specs.Cells as refresh
use Rattle.refresh_phase.specs.Problem.{RefreshBegins}
use Rattle.grid_fluxes.specs.Upwind.{upwind}
use Rattle.advect.specs.FaceFluxes.{FaceFluxState}
use Rattle.advect.specs.Flows.{flow_of}
use Rattle.advect.specs.OwnFluxes.{HoldsAtMost}
use Rattle.flux_register.specs.Cells as flux
use Rattle.flux_register.specs.Made.{AreUpwindAdvanced, IsMadeBy}
use Rattle.flux_register.specs.Problem.{FluxFixBegins}
use Rattle.amount_ledger.specs.Ledgers.{LedgerState}
use Rattle.params_check.specs.Parameters.{Parameters}
use Rattle.run_core.specs.declared.fault.RunFault.{RunFault}
use Rattle.run_core.specs.declared.step.Stage.{Stage}
use Rattle.run_core.specs.declared.step.Stage.TheVariants.{Next, Out}
use Rattle.run_core.specs.declared.step.Step.{Step}
use Rattle.run_core.specs.declared.step.Step.TheVariants as step
use Rattle.run_core.specs.declared.work.Emission.{Emission}
use Rattle.run_core.specs.declared.work.Work.{Work}
use Rattle.run_core.specs.declared.work.Work.TheVariants.{Refresh, Wishes, Adapt, Advance, Flux, Emit, Ended}
use Rattle.run_core.specs.Courses.{Course, RunState, Told, phase_ended, cycle_ended, cycle_after, is_due, phases_of}
use Rattle.run_core.specs.Runs.{Adapts, AreBlocksFor, KeepsLevelLimit, PhasePasses, Runs, RunEnds, blocks_state, phase_wishes}
use Rattle.run_core.specs.PlainCounts.{CountsPhases, HandlesPlainly}
use Rattle.run_core.specs.Steps.{adapts_at, steps_left}

-- What contracts see of a run: its course, its leaves, its ledger, how many of its phases have ended, and the work that
-- comes next or is out. A phase ends with its advance, where it has one.
pub record Standing : Type 0 where
  pub course : Course
  pub set : Tiling
  pub ledger : LedgerState
  pub phase : ℕ
  pub step : Step
  pub stage : Stage

abbrev pub standing : Course → Tiling → LedgerState → ℕ → Step → Stage → Standing
standing course set ledger phase step stage =
    record { course = course; set = set; ledger = ledger; phase = phase; step = step; stage = stage }

-- the number of the last adapt phase that ended, and of the last cycle
abbrev pub phase_of : Standing → ℕ
phase_of s = adapts_at s.step (s.course.ended + s.phase)

abbrev pub cycle_of : Standing → ℕ
cycle_of s = cycle_after s.course.parameters (s.course.ended + s.phase)

-- ---- the state that a step begins with

-- the first phases of a run, which are this many, end in this state
pub record EndsIn (c : Course) (phases : ℕ) (state : State) : Type 0 where
  pub run : RunState
  pub runs : Runs c phases run
  pub is : run.state ≡ state

-- the adapt phase after them leads to this state
pub record AdaptsTo (c : Course) (phases : ℕ) (state : State) : Type 0 where
  pub run : RunState
  pub runs : Runs c phases run
  pub adapts : Adapts c.parameters (c.ended + phases + 1) run.state state

-- the state at each step: between an adapt phase and its advance the one that the adapt phase led to
abbrev pub IsStateAt : Step → Course → ℕ → State → Type 0
IsStateAt step.Refresh c phases state = EndsIn c phases state
IsStateAt step.Wishes c phases state = EndsIn c phases state
IsStateAt step.Adapt c phases state = EndsIn c phases state
IsStateAt step.RefreshAgain c phases state = AdaptsTo c phases state
IsStateAt step.Advance c phases state = AdaptsTo c phases state
IsStateAt step.Flux c phases state = AdaptsTo c phases state
IsStateAt step.Emit c phases state = EndsIn c phases state
IsStateAt step.Ended c phases state = EndsIn c phases state

-- a run stands on this mesh, and its adapt phases that have ended are no more than it has phases
pub record StandsAt (kind : Step) (c : Course) (phases : ℕ) (mesh : List Cube) : Type 0 where
  pub within : adapts_at kind phases ≤ phases_of c
  pub state : State
  pub stands : IsStateAt kind c phases state
  pub ends_on : state.leaves ≡ mesh

-- it has this ledger
pub record HasLedger (c : Course) (phases : ℕ) (ledger : LedgerState) : Type 0 where
  pub run : RunState
  pub runs : Runs c phases run
  pub is : run.ledger ≡ ledger

-- the blocks are those of the mesh, and hold the state at this step
pub record HoldState (kind : Step) (c : Course) (phases : ℕ) (mesh : List Cube) (blocks : List BlockState) : Type 0 where
  pub are_blocks : AreBlocksFor c.parameters mesh blocks
  pub stands : IsStateAt kind c phases (blocks_state c.parameters blocks)

-- the blocks hold the state at the step where a run stands
abbrev pub HoldNext : Standing → List BlockState → Type 0
HoldNext s blocks = HoldState s.step s.course s.phase s.set.places blocks

-- the ghosts of all blocks hold the samples of the blocks' state
abbrev pub HoldAround : Parameters → List BlockState → Type 0
HoldAround p blocks = (i : ℕ) (b : BlockState) → slice_get blocks i ≡ Some b → HoldsSamples (blocks_state p blocks) b

-- the wishes of the next phase, where the first phases of a run are this many: those of the state in which they end
pub record AreWishes (c : Course) (phases : ℕ) (wishes : List Wish) : Type 0 where
  pub run : RunState
  pub runs : Runs c phases run
  pub are : wishes ≡ phase_wishes c.parameters (c.ended + phases + 1) run.state

abbrev pub AreNextWishes : Standing → List Wish → Type 0
AreNextWishes s wishes = AreWishes s.course s.phase wishes

-- ---- what was told

-- What is told before the work of a step, where the first phases of a run end in a state. At an emission its cycle isn't
-- told yet. Between an adapt phase and its advance the phase is told beside what was told before it.
abbrev pub TellsAt : Step → Standing → RunState → List Told → Type 0
TellsAt step.Refresh s run told = told ≡ run.told
TellsAt step.Wishes s run told = told ≡ run.told
TellsAt step.Adapt s run told = told ≡ run.told
TellsAt step.RefreshAgain s run told = told ≡ run.told ++ phase_ended (phase_of s) (length s.set.places) ∷ []
TellsAt step.Advance s run told = told ≡ run.told ++ phase_ended (phase_of s) (length s.set.places) ∷ []
TellsAt step.Flux s run told = told ≡ run.told ++ phase_ended (phase_of s) (length s.set.places) ∷ []
TellsAt step.Emit s run told = run.told ≡ told ++ cycle_ended (cycle_of s) run.state run.ledger ∷ []
TellsAt step.Ended s run told = told ≡ run.told

-- this is what is told of the run before the work of its step
pub record IsTold (s : Standing) (told : List Told) : Type 0 where
  pub run : RunState
  pub runs : Runs s.course s.phase run
  pub tells : TellsAt s.step s run told

-- the run ends where it stands, all that is told of it is this, and a limit ends it or none
pub record EndsTelling (s : Standing) (limit : Option RunFault) (told : List Told) : Type 0 where
  pub run : RunState
  pub ends : RunEnds s.course run limit
  pub tells : run.told ≡ told
  pub leaves : run.state.leaves ≡ s.set.places

-- a limit ends the run where it stands
abbrev pub LimitEnds : Standing → RunFault → Type 0
LimitEnds s fault = (told : List Told) → IsTold s told → EndsTelling s (Some fault) told

-- the adapt phases that have ended handle so many messages together, each first in, first out
abbrev pub IsCounted : Standing → ℕ → Type 0
IsCounted s handled = CountsPhases s.course (adapts_at s.step s.phase) handled

-- ---- the works

-- what the blocks of a run have in common
abbrev pub setting_of : Parameters → refresh.Setting
setting_of p = record { grid = p.grid; edge = p.block; fields = length p.fields; depth = root_depth }

-- a step with a refresh: the one with which a phase begins, or the one before its advance
abbrev pub IsRefreshStep : Step → Type 0
IsRefreshStep kind = (kind ≡ step.Refresh) ⊎ (kind ≡ step.RefreshAgain)

-- a problem of the refresh phase is over the blocks of the state at this step
pub record IsRefreshAt (kind : Step) (c : Course) (phases : ℕ) (mesh : List Cube) (problem : refresh.RefreshProblem) : Type 0 where
  pub setting : problem.setting ≡ setting_of c.parameters
  pub places : (refresh.state_in problem).leaves ≡ mesh
  pub stands : IsStateAt kind c phases (refresh.state_in problem)

abbrev pub IsNextRefresh : Standing → refresh.RefreshProblem → Type 0
IsNextRefresh s problem = IsRefreshAt s.step s.course s.phase s.set.places problem

-- the refresh phase over the blocks of the state before anything is handled
pub record IsRefresh (s : Standing) (setting : refresh.Setting) (cells : List refresh.LeafState) : Type 0 where
  pub step : IsRefreshStep s.step
  pub more : s.phase < phases_of s.course
  pub problem : IsNextRefresh s (refresh.problem_of setting cells)
  pub begins : RefreshBegins (refresh.problem_of setting cells) cells

-- the blocks hold a state, whose totals are within their limit
pub record AreWithinLimits (p : Parameters) (blocks : List BlockState) : Type 0 where
  pub state : IsState (blocks_state p blocks)
  pub few : (f : ℕ) → f < length p.fields → total (blocks_state p blocks) f ≤ 2 ^ 40

-- the blocks of the state, with its samples around them, for the wishes of the next phase
pub record IsWishes (s : Standing) (blocks : List BlockState) : Type 0 where
  pub step : s.step ≡ step.Wishes
  pub more : s.phase < phases_of s.course
  pub holds : HoldNext s blocks
  pub around : HoldAround s.course.parameters blocks
  pub limits : AreWithinLimits s.course.parameters blocks

-- a problem is that of the next phase: the mesh of the state and its wishes
pub record IsNextProblem (s : Standing) (problem : AdaptProblem) : Type 0 where
  pub grid : problem.grid ≡ s.set.grid
  pub places : mesh_of problem ≡ s.set.places
  pub wishes : AreNextWishes s (wishes_of problem)

-- the next phase before anything is handled, within the level limit
pub record IsAdapt (s : Standing) (grid : Grid) (cells : List LeafState) : Type 0 where
  pub step : s.step ≡ step.Adapt
  pub more : s.phase < phases_of s.course
  pub level_limit : KeepsLevelLimit s.course.parameters s.set.places (wishes_of (problem_of grid cells))
  pub problem : IsNextProblem s (problem_of grid cells)
  pub begins : AdaptBegins (problem_of grid cells) cells

-- the blocks of the state, with its samples around them, to be advanced, and what an advance asks of each
pub record IsAdvance (s : Standing) (blocks : List BlockState) : Type 0 where
  pub step : s.step ≡ step.Advance
  pub more : s.phase < phases_of s.course
  pub holds : HoldNext s blocks
  pub around : HoldAround s.course.parameters blocks
  pub limits : AreWithinLimits s.course.parameters blocks
  pub inside : (i : ℕ) (b : BlockState) → slice_get blocks i ≡ Some b → IsInside s.course.parameters.grid b.place
  pub small : (i : ℕ) (b : BlockState) → slice_get blocks i ≡ Some b → HoldsAtMost (2 ^ 42) b

-- blocks and the fluxes of their faces are what an advance makes of such blocks
pub record AreAdvancedAt (kind : Step) (c : Course) (phases : ℕ) (mesh : List Cube) (blocks : List BlockState) (faces : List FaceFluxState) : Type 0 where
  pub befores : List BlockState
  pub holds : HoldState kind c phases mesh befores
  pub around : HoldAround c.parameters befores
  pub advanced : AreUpwindAdvanced c.parameters befores blocks faces

abbrev pub AreNextAdvanced : Standing → List BlockState → List FaceFluxState → Type 0
AreNextAdvanced s blocks faces = AreAdvancedAt s.step s.course s.phase s.set.places blocks faces

-- what the cells of the flux correction have in common
abbrev pub flux_setting_of : Parameters → flux.Setting
flux_setting_of p = record { grid = p.grid; edge = p.block; fields = length p.fields }

-- A problem of the flux correction is over blocks that were advanced, and over the state before, which is the one at
-- this step.
pub record IsFluxAt (kind : Step) (c : Course) (phases : ℕ) (mesh : List Cube) (problem : flux.FluxProblem) : Type 0 where
  pub setting : problem.setting ≡ flux_setting_of c.parameters
  pub places : (flux.state_in problem).leaves ≡ mesh
  pub depths : (i : ℕ) (k : flux.FluxPart) → slice_get problem.parts i ≡ Some k → k.before.depth ≡ root_depth
  pub stands : IsStateAt kind c phases (flux.state_in problem)
  pub made : IsMadeBy problem (upwind (flux.state_in problem) (flow_of c.parameters))

abbrev pub IsNextFlux : Standing → flux.FluxProblem → Type 0
IsNextFlux s problem = IsFluxAt s.step s.course s.phase s.set.places problem

-- the flux correction over the advanced blocks before anything is handled
pub record IsFlux (s : Standing) (setting : flux.Setting) (cells : List flux.FluxState) : Type 0 where
  pub step : s.step ≡ step.Flux
  pub more : s.phase < phases_of s.course
  pub problem : IsNextFlux s (flux.problem_of setting cells)
  pub begins : FluxFixBegins (flux.problem_of setting cells) cells

-- a cycle has ended, and is told, with the files that are due
pub record IsEmission (s : Standing) (emission : Emission) : Type 0 where
  pub step : s.step ≡ step.Emit
  pub cycle : emission.cycle ≡ cycle_of s
  pub mesh : emission.mesh ≡ is_due s.course.parameters.mesh_every (cycle_of s)
  pub fields : emission.fields ≡ is_due s.course.parameters.fields_every (cycle_of s)
  pub checkpoint : emission.checkpoint ≡ is_due s.course.parameters.checkpoint_every (cycle_of s)

-- all was told
pub record IsEnd (s : Standing) : Type 0 where
  pub step : s.step ≡ step.Ended
  pub all : s.phase ≡ phases_of s.course
  pub ends : (told : List Told) → IsTold s told → EndsTelling s None told
  pub counts : (handled : ℕ) → IsCounted s handled → HandlesPlainly s.course handled

-- the work that comes next where a run stands
abbrev pub IsWork : Standing → Work → Type 0
IsWork s (Refresh setting cells) = IsRefresh s setting cells.items
IsWork s (Wishes blocks) = IsWishes s blocks.items
IsWork s (Adapt grid cells) = IsAdapt s grid cells.items
IsWork s (Advance blocks) = IsAdvance s blocks.items
IsWork s (Flux setting cells) = IsFlux s setting cells.items
IsWork s (Emit emission) = IsEmission s emission
IsWork s Ended = IsEnd s

-- the stage of a step whose work was given out; there is none to be done at the end
abbrev pub stage_out : Step → Stage
stage_out step.Refresh = Out
stage_out step.Wishes = Out
stage_out step.Adapt = Out
stage_out step.RefreshAgain = Out
stage_out step.Advance = Out
stage_out step.Flux = Out
stage_out step.Emit = Out
stage_out step.Ended = Next

-- the next phase of the run passes this limit
pub record PassesNext (s : Standing) (fault : RunFault) : Type 0 where
  pub more : s.phase < phases_of s.course
  pub run : RunState
  pub runs : Runs s.course s.phase run
  pub passes : PhasePasses s.course.parameters (s.course.ended + s.phase + 1) run.state fault

-- how many works are left at most
abbrev pub works_left : Standing → ℕ
works_left s = steps_left s.step (phases_of s.course - s.phase)

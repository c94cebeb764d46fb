-- What a run keeps at each step.
use Rattle.std.specs.Prelude.{◌≡◌, ℕ, ◌+◌, ◌<◌, List}
use Rattle.block_index.specs.Places.{Cube}
use Rattle.block_index.specs.declared.wish.Wish.{Wish}
use Rattle.leaf_set.specs.Tiling.{Tiling}
use Rattle.block_fields.specs.Blocks.{BlockState}
use Rattle.amount_ledger.specs.Ledgers.{LedgerState}
use Rattle.advect.specs.FaceFluxes.{FaceFluxState}
use Rattle.run_core.specs.declared.step.Stage.{Stage}
use Rattle.run_core.specs.declared.step.Stage.TheVariants.{Next, Out, Failed}
use Rattle.run_core.specs.declared.step.Step.{Step}
use Rattle.run_core.specs.declared.step.Step.TheVariants.{Refresh, Wishes, Adapt, RefreshAgain, Advance, Flux, Emit, Ended}
use Rattle.run_core.specs.Courses.{Course, phases_of}
use Rattle.run_core.specs.CourseLimits.{IsCourse}
use Rattle.run_core.specs.Runs.{KeepsLevelLimit}
use Rattle.run_core.specs.Works.{AreAdvancedAt, AreWishes, HasLedger, HoldAround, HoldState, StandsAt}

-- what a run kept in its hands while no work is out
pub record Hands : Type 0 where
  pub blocks : List BlockState
  pub wishes : List Wish
  pub faces : List FaceFluxState

-- a phase more is to come
pub record InPhase (c : Course) (phases : ℕ) : Type 0 where
  pub more : phases < phases_of c

-- and its adapt phase has ended, which is a cycle's
pub record InCycle (c : Course) (phases : ℕ) : Type 0 where
  pub more : phases < phases_of c
  pub advances : c.parameters.rounds < c.ended + phases + 1

-- before a refresh the blocks hold the state
pub record BeforeRefresh (c : Course) (phases : ℕ) (mesh : List Cube) (blocks : List BlockState) : Type 0 where
  pub more : phases < phases_of c
  pub holds : HoldState Refresh c phases mesh blocks

pub record BeforeRefreshAgain (c : Course) (phases : ℕ) (mesh : List Cube) (blocks : List BlockState) : Type 0 where
  pub cycle : InCycle c phases
  pub holds : HoldState RefreshAgain c phases mesh blocks

-- once its ghosts are refreshed they hold the samples too
pub record BeforeWishes (c : Course) (phases : ℕ) (mesh : List Cube) (blocks : List BlockState) : Type 0 where
  pub more : phases < phases_of c
  pub holds : HoldState Wishes c phases mesh blocks
  pub around : HoldAround c.parameters blocks

pub record BeforeAdvance (c : Course) (phases : ℕ) (mesh : List Cube) (blocks : List BlockState) : Type 0 where
  pub cycle : InCycle c phases
  pub holds : HoldState Advance c phases mesh blocks
  pub around : HoldAround c.parameters blocks

-- the wishes are known
pub record BeforeAdapt (c : Course) (phases : ℕ) (mesh : List Cube) (blocks : List BlockState) (wishes : List Wish) : Type 0 where
  pub more : phases < phases_of c
  pub holds : HoldState Adapt c phases mesh blocks
  pub asked : AreWishes c phases wishes

-- while the messages of the adapt phase are handled
pub record DuringAdapt (c : Course) (phases : ℕ) (mesh : List Cube) (blocks : List BlockState) (wishes : List Wish) : Type 0 where
  pub more : phases < phases_of c
  pub holds : HoldState Adapt c phases mesh blocks
  pub asked : AreWishes c phases wishes
  pub level_limit : KeepsLevelLimit c.parameters mesh wishes

-- the blocks were advanced by their own fluxes
pub record BeforeFlux (c : Course) (phases : ℕ) (mesh : List Cube) (blocks : List BlockState) (faces : List FaceFluxState) : Type 0 where
  pub cycle : InCycle c phases
  pub advanced : AreAdvancedAt Flux c phases mesh blocks faces

-- a cycle has ended, and the blocks hold its state
pub record AtEmission (c : Course) (phases : ℕ) (mesh : List Cube) (blocks : List BlockState) : Type 0 where
  pub holds : HoldState Emit c phases mesh blocks

-- all phases have ended
pub record AtEnd (c : Course) (phases : ℕ) : Type 0 where
  pub all : phases ≡ phases_of c

-- what is kept at a step whose work comes next
abbrev pub KeepsNext : Step → Course → ℕ → List Cube → Hands → Type 0
KeepsNext Refresh c phases mesh hands = BeforeRefresh c phases mesh hands.blocks
KeepsNext Wishes c phases mesh hands = BeforeWishes c phases mesh hands.blocks
KeepsNext Adapt c phases mesh hands = BeforeAdapt c phases mesh hands.blocks hands.wishes
KeepsNext RefreshAgain c phases mesh hands = BeforeRefreshAgain c phases mesh hands.blocks
KeepsNext Advance c phases mesh hands = BeforeAdvance c phases mesh hands.blocks
KeepsNext Flux c phases mesh hands = BeforeFlux c phases mesh hands.blocks hands.faces
KeepsNext Emit c phases mesh hands = AtEmission c phases mesh hands.blocks
KeepsNext Ended c phases mesh hands = AtEnd c phases

-- what is kept at a step whose work is out, most often with the blocks
abbrev pub KeepsOut : Step → Course → ℕ → List Cube → Hands → Type 0
KeepsOut Refresh c phases mesh hands = InPhase c phases
KeepsOut Wishes c phases mesh hands = InPhase c phases
KeepsOut Adapt c phases mesh hands = DuringAdapt c phases mesh hands.blocks hands.wishes
KeepsOut RefreshAgain c phases mesh hands = InCycle c phases
KeepsOut Advance c phases mesh hands = InCycle c phases
KeepsOut Flux c phases mesh hands = InCycle c phases
KeepsOut Emit c phases mesh hands = AtEmission c phases mesh hands.blocks
KeepsOut Ended c phases mesh hands = AtEnd c phases

-- what is kept at each stage; a run that failed keeps nothing but its mesh and its ledger
abbrev pub KeepsAt : Stage → Step → Course → ℕ → List Cube → Hands → Type 0
KeepsAt Next step c phases mesh hands = KeepsNext step c phases mesh hands
KeepsAt Out step c phases mesh hands = KeepsOut step c phases mesh hands
KeepsAt Failed step c phases mesh hands = Unit {0}

-- what a run keeps
pub record KeepsRun (c : Course) (set : Tiling) (ledger : LedgerState) (phases : ℕ) (step : Step) (stage : Stage) (hands : Hands) : Type 0 where
  pub limits : IsCourse c
  pub grid : set.grid ≡ c.parameters.grid
  pub stands : StandsAt step c phases set.places
  pub has_ledger : HasLedger c phases ledger
  pub keeps : KeepsAt stage step c phases set.places hands

-- The defined run of a course: adapt phases one after another, the initial rounds first and then one with each cycle's
-- advance, to the last or to a limit.
use Rattle.std.specs.Prelude.{◌≡◌, ℕ, zero, suc, ◌+◌, ◌<◌, ◌≤◌, ◌==◌, cond, nat_lt, true, List, [], ◌∷◌, ◌++◌, length, Option, Some, None, slice_get}
use Rattle.block_index.specs.Places.{Cube}
use Rattle.block_index.specs.declared.wish.Wish.{Wish}
use Rattle.block_index.specs.declared.wish.Wish.TheVariants.{Refine}
use Rattle.leaf_set.specs.LevelRules.{IsLeast}
use Rattle.leaf_set.specs.NextMesh.{next_mesh}
use Rattle.block_fields.specs.Blocks.{BlockState}
use Rattle.block_fields.specs.BlockStates.{AreBlocksOf, state_of}
use Rattle.block_fields.specs.Samples.{adapted}
use Rattle.block_fields.specs.States.{State}
use Rattle.initial_fill.specs.RootBlocks.{root_depth}
use Rattle.amount_ledger.specs.Ledgers.{later_ledger}
use Rattle.grid_fluxes.specs.Fluxes.{advanced}
use Rattle.grid_fluxes.specs.Upwind.{upwind}
use Rattle.advect.specs.Flows.{flow_of}
use Rattle.params_check.specs.Parameters.{Parameters}
use Rattle.criteria.specs.Wishes.{wishes_in}
use Rattle.run_core.specs.declared.fault.RunFault.{RunFault}
use Rattle.run_core.specs.declared.fault.RunFault.TheVariants.{LevelLimit, BlockLimit}
use Rattle.run_core.specs.Courses.{Course, RunState, Told, phase_ended, cycle_ended, cycle_after, outflow, phases_of, run_state}

-- how many phases a run has at most: the initial rounds, and one with each cycle
abbrev pub most_phases : ℕ
most_phases = 4108

-- the wish of each leaf of a state in a phase, by the criteria of the parameters
abbrev pub phase_wishes : Parameters → ℕ → State → List Wish
phase_wishes p phase s = wishes_in phase p.criteria s

-- the leaf at `i` is of the finest level, and its wish is to refine
pub record WishesTooFine (p : Parameters) (mesh : List Cube) (wishes : List Wish) (i : ℕ) (place : Cube) : Type 0 where
  pub leaf : slice_get mesh i ≡ Some place
  pub finest : place.level ≡ p.grid.finest
  pub refine : slice_get wishes i ≡ Some Refine

-- where the parameters are strict, no leaf wishes for a level above the finest
abbrev pub KeepsLevelLimit : Parameters → List Cube → List Wish → Type 0
KeepsLevelLimit p mesh wishes = p.strict ≡ true → (i : ℕ) (place : Cube) → WishesTooFine p mesh wishes i place → ⊥

-- One adapt phase decides on these levels of a mesh's leaves, the least that meet the level rules for their wishes, within
-- both limits.
pub record Decides (p : Parameters) (mesh : List Cube) (wishes : List Wish) (levels : List ℕ) : Type 0 where
  pub level_limit : KeepsLevelLimit p mesh wishes
  pub least : IsLeast p.grid mesh wishes levels
  pub block_limit : length (next_mesh mesh levels) ≤ p.max_blocks

-- One adapt phase leads from a state to the next: the next mesh by the levels that the state's wishes decide on, whose
-- cells hold the samples of the state before.
pub record Adapts (p : Parameters) (phase : ℕ) (before after : State) : Type 0 where
  pub levels : List ℕ
  pub decides : Decides p before.leaves (phase_wishes p phase before) levels
  pub next : after ≡ adapted before levels

-- An adapt phase ends the run by a limit: with strict parameters the first leaf that wishes for a level above the
-- finest, else a next mesh of more leaves than there may be blocks.
pub data PassesLimit (p : Parameters) (phase : ℕ) (mesh : List Cube) (wishes : List Wish) (fault : RunFault) : Type 0 where
  of_level : (i : ℕ) (place : Cube) → p.strict ≡ true → WishesTooFine p mesh wishes i place →
      ((j : ℕ) (c : Cube) → j < i → WishesTooFine p mesh wishes j c → ⊥) → fault ≡ LevelLimit phase place → PassesLimit p phase mesh wishes fault
  of_blocks : (levels : List ℕ) → KeepsLevelLimit p mesh wishes → IsLeast p.grid mesh wishes levels →
      p.max_blocks < length (next_mesh mesh levels) → fault ≡ BlockLimit phase (length (next_mesh mesh levels)) p.max_blocks →
      PassesLimit p phase mesh wishes fault

-- the phase that follows on a state passes a limit, by the state's wishes
abbrev pub PhasePasses : Parameters → ℕ → State → RunFault → Type 0
PhasePasses p phase s fault = PassesLimit p phase s.leaves (phase_wishes p phase s) fault

-- the blocks are those of these leaves in order, with the edge and the fields of the parameters
abbrev pub AreBlocksFor : Parameters → List Cube → List BlockState → Type 0
AreBlocksFor p leaves blocks = AreBlocksOf leaves p.block (length p.fields) root_depth blocks

-- the state that such blocks hold
abbrev pub blocks_state : Parameters → List BlockState → State
blocks_state p blocks = state_of p.grid p.block (length p.fields) blocks

-- what a state told by the phase of this number says of it
abbrev pub told_phase : RunState → ℕ → State → List Told
told_phase s phase between = s.told ++ phase_ended phase (length between.leaves) ∷ []

-- where the run stands after an initial round that led to this state; with the last one cycle 0 ends
abbrev pub after_round : Parameters → ℕ → RunState → State → RunState
after_round p phase s between =
    run_state between s.ledger (told_phase s phase between ++ cond (phase == p.rounds) (cycle_ended 0 between s.ledger ∷ []) [])

-- where it stands after the cycle whose adapt phase led to this state
abbrev pub after_cycle : Parameters → ℕ → RunState → State → RunState
after_cycle p phase s between =
    let next = advanced between (upwind between (flow_of p)) in
    let ledger = later_ledger s.ledger (outflow p between) in
    run_state next ledger (told_phase s phase between ++ cycle_ended (cycle_after p phase) next ledger ∷ [])

abbrev pub after_step : Parameters → ℕ → RunState → State → RunState
after_step p phase s between = cond (nat_lt p.rounds phase) (after_cycle p phase s between) (after_round p phase s between)

-- One phase more, which has this number: an adapt phase, and where the initial rounds are behind, an advance. What is
-- told is the phase with the leaves that it led to, and the cycle, where one ended.
pub record RunSteps (p : Parameters) (phase : ℕ) (s t : RunState) : Type 0 where
  pub between : State
  pub adapts : Adapts p phase s.state between
  pub goes_on : t ≡ after_step p phase s between

-- the first phases of a run, which are this many
abbrev pub Runs : Course → ℕ → RunState → Type 0
Runs c zero t = t ≡ c.start
Runs c (suc phases) t = (s : RunState) × Runs c phases s × RunSteps c.parameters (c.ended + suc phases) s t

-- The run ends, in this state: after its last phase, or by a limit that the next phase passes.
pub data RunEnds (c : Course) (s : RunState) (limit : Option RunFault) : Type 0 where
  after_all : Runs c (phases_of c) s → limit ≡ None → RunEnds c s limit
  at_limit : (phases : ℕ) (fault : RunFault) → phases < phases_of c → Runs c phases s →
      PhasePasses c.parameters (c.ended + suc phases) s.state fault → limit ≡ Some fault → RunEnds c s limit

-- no phase of the run passes a limit
abbrev pub MeetsNoLimit : Course → Type 0
MeetsNoLimit c = (phases : ℕ) (s : RunState) (fault : RunFault) → phases < phases_of c → Runs c phases s →
    PhasePasses c.parameters (c.ended + suc phases) s.state fault → ⊥

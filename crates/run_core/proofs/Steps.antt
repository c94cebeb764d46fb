-- One adapt phase, as the code takes it: the next mesh, and the blocks on it.
use Rattle.std.proofs.Common.{◌≡◌, ℕ, ◌^◌, ◌<◌, ◌≤◌, List, length, sym, subst, arith}
use Rattle.block_index.specs.Places.{Cube, Grid}
use Rattle.block_index.specs.declared.wish.Wish.{Wish}
use Rattle.leaf_set.specs.LevelRules.{IsSolution}
use Rattle.leaf_set.specs.NextMesh.{next_mesh}
use Rattle.leaf_set.specs.Tiling.{Tiling}
use Rattle.block_fields.specs.Blocks.{BlockState}
use Rattle.block_fields.specs.BlockStates.{state_of}
use Rattle.block_fields.specs.Samples.{adapted}
use Rattle.block_fields.specs.States.{State, total}
use Rattle.initial_fill.specs.RootBlocks.{root_depth}
use Rattle.params_check.specs.Parameters.{Parameters}
use Rattle.split_join.specs.Applying.{AreBlocksOfSet}
use Rattle.run_core.specs.Lemmas.Decisions.{LeadsTo}
use Rattle.run_core.specs.Runs.{Adapts, AreBlocksFor, Decides, blocks_state, phase_wishes}

-- the blocks of a run's state fit
pub AreBlocksOfSet-run : (p : Parameters) (set : Tiling) (blocks : List BlockState) → set.grid ≡ p.grid → AreBlocksFor p set.places blocks
    → ((f : ℕ) → f < length p.fields → total (blocks_state p blocks) f ≤ 2 ^ 40) → AreBlocksOfSet set blocks
AreBlocksOfSet-run p set blocks same are most =
    let few : (f : ℕ) → f < length p.fields → total (state_of set.grid p.block (length p.fields) blocks) f ≤ 2 ^ 42 =
    λ f h. (let here = most f h in omega arith) in
    (p.block, length p.fields, root_depth, are, few)

-- a phase leads from the blocks' state to that of the next ones
pub Adapts-blocks : (p : Parameters) (set : Tiling) (phase : ℕ) (wishes : List Wish) (next : List Cube) (old new : List BlockState) → set.grid ≡ p.grid
    → AreBlocksFor p set.places old → wishes ≡ phase_wishes p phase (blocks_state p old) → LeadsTo p set.places wishes next
    → ((wishes : List Wish) (levels : List ℕ) → IsSolution set.grid set.places wishes levels → next ≡ next_mesh set.places levels
    → state_of set.grid p.block (length p.fields) new ≡ adapted (state_of set.grid p.block (length p.fields) old) levels)
    → Adapts p phase (blocks_state p old) (blocks_state p new)
Adapts-blocks p set phase wishes next old new same are asked leads holds =
    let levels = leads.0 in
    let state : State = blocks_state p old in
    let decides : Decides p set.places (phase_wishes p phase state) levels = subst (λ (ws : List Wish). Decides p set.places ws levels) asked leads.1 in
    let solves : IsSolution set.grid set.places wishes levels =
    subst (λ (grid : Grid). IsSolution grid set.places wishes levels) (sym same) leads.1.least.solves in
    record {
      levels = levels;
      decides = subst (λ (mesh : List Cube). Decides p mesh (phase_wishes p phase state) levels) (sym are.places) decides;
      next = subst (λ (grid : Grid). state_of grid p.block (length p.fields) new ≡ adapted (state_of grid p.block (length p.fields) old) levels) same
          (holds wishes levels solves leads.2);
    }

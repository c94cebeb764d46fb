-- From where a run goes on, and how one that was to go on ends.
use Rattle.std.specs.Prelude.{◌≡◌, ℕ, ◌+◌, ◌<◌, ◌≤◌, false, List, [], IfSome, None, Ok, length, slice_index}
use Rattle.adapt_core.specs.Cells.{AdaptProblem}
use Rattle.amount_ledger.specs.Ledgers.{LedgerState, restored_ledger}
use Rattle.block_fields.specs.Blocks.{BlockState}
use Rattle.block_fields.specs.States.{IsState, total}
use Rattle.cello_io.specs.Files.{ShelfTells}
use Rattle.checkpoint.specs.declared.fault.CheckFault.{CheckFault}
use Rattle.checkpoint.specs.declared.fault.CheckFault.TheVariants as check
use Rattle.checkpoint.specs.Reading.{HasFault, ReadsAs}
use Rattle.checkpoint.specs.SavedStates.{SavedState}
use Rattle.initial_fill.specs.RootBlocks.{initial_state}
use Rattle.leaf_set.specs.declared.leaf_fault.LeafFault.TheVariants as leaf_faults
use Rattle.leaf_set.specs.Tiling.{Tiling}
use Rattle.params_check.specs.Bounds.{most_cycles}
use Rattle.params_check.specs.Parameters.{Parameters}
use Rattle.run_core.specs.Courses.{RunState, run_state, totals_of}
use Rattle.run_core.specs.Runs.{AreBlocksFor, blocks_state}
use Rattle.run_report.specs.Actions.{restart_pieces}
use Rattle.run_report.specs.Outputs.{Output}
use Rattle.cello_top.specs.declared.fault.Fault.{Fault}
use Rattle.cello_top.specs.declared.fault.Fault.TheVariants.{Absent, Checkpoint, Memory, ReadFault}
use Rattle.cello_io.specs.Fetching.{HasFetched}
use Rattle.restart_laws.specs.Resumes.{fetch_limit, resumed}
use Rattle.cello_top.specs.Lemmas.CommandSteps.{RanWhole, RunningEnds}

-- a state that no run stands in, where none is picked
abbrev pub nowhere : RunState
nowhere = run_state (record {
  grid = record { trees_x = 0; trees_y = 0; trees_z = 0; wraps_x = false; wraps_y = false; wraps_z = false; finest = 0 };
  edge = 0;
  fields = 0;
  leaves = [];
  amounts = [];
}) (restored_ledger [] []) []

-- a run can go on from here: after this cycle, on these leaves, with these blocks and this ledger
pub record GoesOnFrom (p : Parameters) (cycle : ℕ) (set : Tiling) (blocks : List BlockState) (ledger : LedgerState) : Type 0 where
  pub grid : set.grid ≡ p.grid
  pub blocks_are : AreBlocksFor p set.places blocks
  pub state : IsState (blocks_state p blocks)
  pub restored : ledger ≡ restored_ledger (totals_of (blocks_state p blocks)) ledger.gone
  pub together : (f : ℕ) → f < length p.fields → slice_index ledger.total f + slice_index ledger.gone f ≡ total (initial_state p) f
  pub within : cycle ≤ most_cycles

-- why a run that was to go on from the checkpoint of some bytes ends otherwise than well
pub data ResumingEnds (bytes : List ℕ) (until : ℕ) (before after : Output) (fault : Fault) : Type 0 where
  resuming_file : (f : CheckFault) → HasFault bytes f → (f ≡ check.Memory → ⊥) → (f ≡ check.Leaves leaf_faults.Memory → ⊥) → fault ≡ Checkpoint f → after ≡ before →
      ResumingEnds bytes until before after fault
  resuming_memory : fault ≡ Memory → after ≡ before → ResumingEnds bytes until before after fault
  resuming_run : (s : SavedState) → ReadsAs bytes (Ok s) → RunningEnds (restart_pieces s.cycle (length s.places)) (resumed s until) before after fault →
      ResumingEnds bytes until before after fault

-- why fetching the file of a name ends otherwise than well
pub data FetchingEnds (name : List ℕ) (tells : ShelfTells) (fault : Fault) : Type 0 where
  fetching_failed : fault ≡ ReadFault → FetchingEnds name tells fault
  fetching_absent : fault ≡ Absent name → IfSome tells.past (λ past. past name ≡ None) → FetchingEnds name tells fault
  fetching_memory : fault ≡ Memory → FetchingEnds name tells fault

-- A run that goes on from the checkpoint in the file of a name ended well, and handled so many messages.
pub record ResumeDone (counts : AdaptProblem → ℕ → Type 0) (name : List ℕ) (until : ℕ) (tells : ShelfTells) (before after : Output) (handled : ℕ) : Type 0 where
  pub bytes : List ℕ
  pub fetched : HasFetched name fetch_limit bytes tells
  pub state : SavedState
  pub reads : ReadsAs bytes (Ok state)
  pub ran : RanWhole counts (restart_pieces state.cycle (length state.places)) (resumed state until) handled before after

-- why one ends otherwise than well
pub data ResumeEnds (name : List ℕ) (until : ℕ) (tells : ShelfTells) (before after : Output) (fault : Fault) : Type 0 where
  resume_unfetched : FetchingEnds name tells fault → after ≡ before → ResumeEnds name until tells before after fault
  resume_fetched : (bytes : List ℕ) → HasFetched name fetch_limit bytes tells → ResumingEnds bytes until before after fault →
      ResumeEnds name until tells before after fault

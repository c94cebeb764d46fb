-- How far a file is read: which parts stand in front, and what they told.
use Rattle.std.specs.Prelude.{◌≡◌, ℕ, ◌⊎◌, false, List, [], ◌∷◌, ◌++◌, length}
use Rattle.amount_ledger.specs.Ledgers.{restored_ledger}
use Rattle.block_index.specs.Places.{Cube}
use Rattle.block_fields.specs.BlockStates.{AreBlocksOf}
use Rattle.params_check.specs.Parameters.{Parameters}
use Rattle.checkpoint.specs.Reading.{BeginsWith, HasFault, IsCheckpoint, kept_depth}
use Rattle.checkpoint.specs.SavedStates.{AreZeroFrom, SavedState, saved}
use Rattle.checkpoint.specs.Spelling.{bytes_of}
use Rattle.checkpoint.specs.declared.part.Part.{Part}
use Rattle.checkpoint.specs.declared.part.Part.TheVariants as parts
use Rattle.checkpoint.specs.declared.state.State.{State}
use Rattle.checkpoint.specs.declared.fault.CheckFault.{CheckFault}
use Rattle.checkpoint.specs.declared.fault.CheckFault.TheVariants as faults

-- the parts before a part
abbrev pub parts_before : Part → List Part
parts_before parts.Magic = []
parts_before parts.Version = parts.Magic ∷ []
parts_before parts.TextLength = parts.Magic ∷ parts.Version ∷ []
parts_before parts.Text = parts.Magic ∷ parts.Version ∷ parts.TextLength ∷ []
parts_before parts.Cycle = parts.Magic ∷ parts.Version ∷ parts.TextLength ∷ parts.Text ∷ []
parts_before parts.LeafCount = parts.Magic ∷ parts.Version ∷ parts.TextLength ∷ parts.Text ∷ parts.Cycle ∷ []
parts_before parts.Places = parts.Magic ∷ parts.Version ∷ parts.TextLength ∷ parts.Text ∷ parts.Cycle ∷ parts.LeafCount ∷ []
parts_before parts.Amounts =
    parts.Magic ∷ parts.Version ∷ parts.TextLength ∷ parts.Text ∷ parts.Cycle ∷ parts.LeafCount ∷ parts.Places ∷ []
parts_before parts.Totals =
    parts.Magic ∷ parts.Version ∷ parts.TextLength ∷ parts.Text ∷ parts.Cycle ∷ parts.LeafCount ∷ parts.Places ∷ parts.Amounts ∷ []
parts_before parts.Gone =
    parts.Magic ∷ parts.Version ∷ parts.TextLength ∷ parts.Text ∷ parts.Cycle ∷ parts.LeafCount ∷ parts.Places ∷ parts.Amounts ∷ parts.Totals ∷ []

-- the file's parts before this one are those of a state, and this much is left from it on
abbrev pub StandsBefore : Part → List ℕ → SavedState → List ℕ → Type 0
StandsBefore next bytes s left = BeginsWith bytes s (parts_before next) next left

-- parameters of which only the text counts
abbrev pub only_text : List ℕ → Parameters
only_text text = record {
  grid = record { trees_x = 0; trees_y = 0; trees_z = 0; wraps_x = false; wraps_y = false; wraps_z = false; finest = 0 };
  axes = [];
  block = 0;
  max_blocks = 0;
  rounds = 0;
  strict = false;
  fields = [];
  shapes = [];
  criteria = [];
  velocity = [];
  den = 0;
  cycles = 0;
  mesh_every = 0;
  fields_every = 0;
  checkpoint_every = 0;
  text = text;
}

-- a place, of which only the number counts
abbrev pub some_place : Cube
some_place = record { level = 0; x = 0; y = 0; z = 0 }

-- what a file has told
abbrev pub told : Parameters → ℕ → List Cube → List (List (List ℕ)) → List ℕ → List ℕ → SavedState
told p cycle places amounts totals gone = record { params = p; cycle = cycle; places = places; amounts = amounts; totals = totals; gone = gone }

-- a state that stands in front of a file's last bytes
pub record StandsInFront (bytes : List ℕ) (s : State) (left : List ℕ) : Type 0 where
  pub kept : IsCheckpoint (saved s.params s.cycle s.set.places s.blocks.items s.ledger)
  pub bytes_are : bytes ≡ bytes_of (saved s.params s.cycle s.set.places s.blocks.items s.ledger) ++ left
  pub grid : s.set.grid ≡ s.params.grid
  pub blocks : AreBlocksOf s.set.places s.params.block (length s.params.fields) kept_depth s.blocks.items
  pub ledger : s.ledger ≡ restored_ledger s.ledger.total s.ledger.gone
  pub no_total : AreZeroFrom (length s.params.fields) s.ledger.total
  pub no_gone : AreZeroFrom (length s.params.fields) s.ledger.gone

-- reading ends at a fault of the file, or memory was refused
abbrev pub EndsRead : List ℕ → CheckFault → Type 0
EndsRead bytes fault = (fault ≡ faults.Memory) ⊎ HasFault bytes fault

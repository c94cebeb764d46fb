-- How reading a part ends where it doesn't go on.
use Rattle.std.specs.Prelude.{◌≡◌, ℕ, ◌<◌, List, take}
use Rattle.block_index.specs.Places.{Grid}
use Rattle.checkpoint.specs.Reading.{ArePlacesAtFault, AreWords, IsPartFault}
use Rattle.checkpoint.specs.SavedStates.{SavedState}
use Rattle.checkpoint.specs.declared.part.Part.TheVariants as parts
use Rattle.checkpoint.specs.declared.fault.CheckFault.{CheckFault}
use Rattle.checkpoint.specs.declared.fault.CheckFault.TheVariants as faults

-- the text is at fault, or memory was refused
pub data EndsText (bytes : List ℕ) (fault : CheckFault) : Type 0 where
  faulty : ((s : SavedState) → IsPartFault s parts.Text bytes fault) → EndsText bytes fault
  starved : fault ≡ faults.Memory → EndsText bytes fault

-- the places are at fault, or memory was refused
pub data EndsPlaces (grid : Grid) (bytes : List ℕ) (fault : CheckFault) : Type 0 where
  misplaced : ArePlacesAtFault grid bytes fault → EndsPlaces grid bytes fault
  no_room : fault ≡ faults.Memory → EndsPlaces grid bytes fault

-- numbers for the fields, of which the one of field `f` is the first that breaks a rule
pub record IsFirstOff (bytes numbers : List ℕ) (fields : ℕ) (keeps : ℕ → Type 0) (f : ℕ) : Type 0 where
  pub words : AreWords (take fields numbers) bytes
  pub field : f < fields
  pub breaks : keeps f → ⊥
  pub kept_before : (g : ℕ) → g < f → keeps g

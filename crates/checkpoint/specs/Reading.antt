-- What the bytes of a file stand for: a state, or the first fault.
use Rattle.std.specs.Prelude.{◌≡◌, ℕ, ◌+◌, ◌*◌, ◌^◌, ◌<◌, ◌≤◌, List, ◌∷◌, ◌++◌, Ok, Err, All, codes, drop, length, map, slice_index, take}
use Rattle.std.specs.declared.result.Result.{Result}
use Rattle.std.specs.Int.{bytes_high_first}
use Rattle.std.specs.List.{flat_map}
use Rattle.block_index.specs.Places.{Cube, Grid, IsPlace, packed}
use Rattle.block_fields.specs.States.{State, IsState, total}
use Rattle.leaf_set.specs.LeafFaults.{IsFirst, IsLeafFault}
use Rattle.leaf_set.specs.Tiling.{IsTiling}
use Rattle.leaf_set.specs.declared.leaf_fault.LeafFault.{LeafFault}
use Rattle.leaf_set.specs.declared.leaf_fault.LeafFault.TheVariants as leaf_faults
use Rattle.params_syntax.specs.Limits.{longest}
use Rattle.params_syntax.specs.Trees.{Each, IsTree}
use Rattle.params_syntax.specs.declared.tree.Group.{Group}
use Rattle.params_check.specs.Bounds.{most_cycles}
use Rattle.params_check.specs.Parameters.{Parameters, total_of}
use Rattle.params_check.specs.Walks.{parameters_of}
use Rattle.checkpoint.specs.Parts.{parts_of_version_1}
use Rattle.checkpoint.specs.SavedStates.{SavedState}
use Rattle.checkpoint.specs.Spelling.{all_amounts, bytes_of, numbers_bytes, part_bytes}
use Rattle.checkpoint.specs.declared.part.Part.{Part}
use Rattle.checkpoint.specs.declared.part.Part.TheVariants as parts
use Rattle.checkpoint.specs.declared.fault.CheckFault.{CheckFault}
use Rattle.checkpoint.specs.declared.fault.CheckFault.TheVariants as faults

-- ---- which states a file may keep

-- a tree has these parameters, so that their text is its canonical one
pub record AreAccepted (p : Parameters) : Type 0 where
  pub groups : List Group
  pub limits : IsTree groups
  pub accepted : parameters_of groups ≡ Ok p

-- how many cells deep the ghosts of the blocks are that a file is read into
abbrev pub kept_depth : ℕ
kept_depth = 1

-- the leaves of a saved state with their amounts
abbrev pub state_in : SavedState → State
state_in s = record {
  grid = s.params.grid;
  edge = s.params.block;
  fields = length s.params.fields;
  leaves = s.places;
  amounts = s.amounts;
}

-- numbers of 64 bits
abbrev pub FitWords : List ℕ → Type 0
FitWords numbers = All (λ n. n < 2 ^ 64) numbers

-- one of them for each field
pub record IsForEachField (s : SavedState) (numbers : List ℕ) : Type 0 where
  pub one_each : length numbers ≡ length s.params.fields
  pub fit : FitWords numbers

-- each field's stated total is the sum of its amounts
pub record HasTotals (s : SavedState) : Type 0 where
  pub stated : IsForEachField s s.totals
  pub sums : (f : ℕ) → f < length s.params.fields → slice_index s.totals f ≡ total (state_in s) f

-- in each field what is there and what has left make up the initial total of the parameters
pub record IsInBalance (s : SavedState) : Type 0 where
  pub stated : IsForEachField s s.gone
  pub sums : (f : ℕ) → f < length s.params.fields → slice_index s.totals f + slice_index s.gone f ≡ total_of s.params f

-- what a file demands of each part of a state
abbrev pub IsSound : SavedState → Part → Type 0
IsSound s parts.Magic = Unit {0}
IsSound s parts.Version = Unit {0}
IsSound s parts.TextLength = length s.params.text ≤ longest
IsSound s parts.Text = AreAccepted s.params
IsSound s parts.Cycle = s.cycle ≤ most_cycles
IsSound s parts.LeafCount = length s.places ≤ s.params.max_blocks
IsSound s parts.Places = IsTiling (record { grid = s.params.grid; places = s.places })
IsSound s parts.Amounts = IsState (state_in s) × FitWords (all_amounts s.amounts)
IsSound s parts.Totals = HasTotals s
IsSound s parts.Gone = IsInBalance s

-- a state that a file may keep
abbrev pub IsCheckpoint : SavedState → Type 0
IsCheckpoint s = Each (IsSound s) parts_of_version_1

-- ---- faults

-- how many bytes a part has, by the parts before it
abbrev pub size : SavedState → Part → ℕ
size s parts.Magic = 8
size s parts.Version = 2
size s parts.TextLength = 4
size s parts.Text = length s.params.text
size s parts.Cycle = 4
size s parts.LeafCount = 4
size s parts.Places = 8 * length s.places
size s parts.Amounts = length s.places * (length s.params.fields * (8 * (s.params.block * s.params.block * s.params.block)))
size s parts.Totals = 8 * length s.params.fields
size s parts.Gone = 8 * length s.params.fields

-- the bytes are a number of this many bytes
pub record AreNumber (count n : ℕ) (bytes : List ℕ) : Type 0 where
  pub fits : n < 256 ^ count
  pub bytes_are : bytes ≡ bytes_high_first count n

-- the bytes are numbers of 8 bytes
pub record AreWords (words bytes : List ℕ) : Type 0 where
  pub fit : FitWords words
  pub bytes_are : bytes ≡ numbers_bytes words

-- the word at a position is no place
pub record IsNoPlace (bytes : List ℕ) (at : ℕ) : Type 0 where
  pub within : 8 * at + 8 ≤ length bytes
  pub none : (c : Cube) → IsPlace c → bytes_high_first 8 (packed c) ≡ take 8 (drop (8 * at) bytes) → ⊥

-- the places of a domain are at fault: a word is none, or they are no balanced mesh in order
pub data ArePlacesAtFault (grid : Grid) (bytes : List ℕ) (fault : CheckFault) : Type 0 where
  no_place : (at : ℕ) → IsFirst (IsNoPlace bytes) at → fault ≡ faults.Word at → ArePlacesAtFault grid bytes fault
  no_mesh : (places : List Cube) (f : LeafFault) → All IsPlace places → bytes ≡ numbers_bytes (map packed places) →
      IsLeafFault grid places f → (f ≡ leaf_faults.Memory → ⊥) → fault ≡ faults.Leaves f → ArePlacesAtFault grid bytes fault

-- a field's stated total isn't the sum of its amounts
pub record IsOtherTotal (s : SavedState) (stated : List ℕ) (f : ℕ) : Type 0 where
  pub field : f < length s.params.fields
  pub other : slice_index stated f ≡ total (state_in s) f → ⊥

-- a field's total and what is gone aren't its initial total
pub record IsOffBalance (s : SavedState) (gone : List ℕ) (f : ℕ) : Type 0 where
  pub field : f < length s.params.fields
  pub other : slice_index s.totals f + slice_index gone f ≡ total_of s.params f → ⊥

-- a number of four or of two bytes that breaks a rule, and the fault that says so
pub record IsBadNumber (count : ℕ) (bytes : List ℕ) (bad : ℕ → Type 0) (says : ℕ → CheckFault) (fault : CheckFault) : Type 0 where
  pub found : ℕ
  pub is : AreNumber count found bytes
  pub breaks : bad found
  pub fault_is : fault ≡ says found

-- the first field with a property, and the fault that names it
pub record IsBadField (words bytes : List ℕ) (bad : ℕ → Type 0) (says : ℕ → CheckFault) (fault : CheckFault) : Type 0 where
  pub is : AreWords words bytes
  pub field : ℕ
  pub first : IsFirst bad field
  pub fault_is : fault ≡ says field

-- The bytes of a part are at fault, where the parts before it are those of a state.
abbrev pub IsPartFault : SavedState → Part → List ℕ → CheckFault → Type 0
IsPartFault s parts.Magic bytes fault = (bytes ≡ codes "CELLOAMR" → ⊥) × (fault ≡ faults.Magic)
IsPartFault s parts.Version bytes fault = IsBadNumber 2 bytes (λ n. n ≡ 1 → ⊥) (λ n. faults.Version n) fault
IsPartFault s parts.TextLength bytes fault = IsBadNumber 4 bytes (λ n. longest < n) (λ n. faults.Params) fault
IsPartFault s parts.Text bytes fault = ((p : Parameters) → AreAccepted p → p.text ≡ bytes → ⊥) × (fault ≡ faults.Params)
IsPartFault s parts.Cycle bytes fault = IsBadNumber 4 bytes (λ n. most_cycles < n) (λ n. faults.Cycle n) fault
IsPartFault s parts.LeafCount bytes fault =
    IsBadNumber 4 bytes (λ n. s.params.max_blocks < n) (λ n. faults.Count n s.params.max_blocks) fault
IsPartFault s parts.Places bytes fault = ArePlacesAtFault s.params.grid bytes fault
IsPartFault s parts.Amounts bytes fault = ⊥
IsPartFault s parts.Totals bytes fault = (stated : List ℕ)
    × IsBadField stated bytes (IsOtherTotal s stated) (λ f. faults.Total f (slice_index stated f) (total (state_in s) f)) fault
IsPartFault s parts.Gone bytes fault = (gone : List ℕ)
    × IsBadField gone bytes (IsOffBalance s gone) (λ f. faults.Balance f (slice_index s.totals f + slice_index gone f) (total_of s.params f)) fault

-- A file begins with some parts of a state, each sound. `left` is what stands after them, and the next part is `next`.
pub record BeginsWith (bytes : List ℕ) (s : SavedState) (done : List Part) (next : Part) (left : List ℕ) : Type 0 where
  pub more : List Part
  pub in_order : parts_of_version_1 ≡ done ++ next ∷ more
  pub sound : Each (IsSound s) done
  pub bytes_are : bytes ≡ flat_map (part_bytes s) done ++ left

-- The first fault of a file: that of the first part that isn't there whole, or whose bytes are at fault; or bytes that
-- stand after the last part.
pub data HasFault (bytes : List ℕ) (fault : CheckFault) : Type 0 where
  short : (s : SavedState) (done : List Part) (next : Part) (left : List ℕ) → BeginsWith bytes s done next left → length left < size s next →
      fault ≡ faults.Truncated (length bytes) → HasFault bytes fault
  faulty : (s : SavedState) (done : List Part) (next : Part) (here after : List ℕ) → BeginsWith bytes s done next (here ++ after) →
      length here ≡ size s next → IsPartFault s next here fault → HasFault bytes fault
  trailing : (s : SavedState) (left : List ℕ) → IsCheckpoint s → bytes ≡ bytes_of s ++ left → 0 < length left →
      fault ≡ faults.Trailing (length (bytes_of s)) → HasFault bytes fault

-- what a file stands for: the state that it spells, or its first fault
abbrev pub ReadsAs : List ℕ → Result SavedState CheckFault → Type 0
ReadsAs bytes (Ok s) = IsCheckpoint s × (bytes ≡ bytes_of s)
ReadsAs bytes (Err fault) = HasFault bytes fault

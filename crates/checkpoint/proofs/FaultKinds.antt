-- A fault of a file is never that memory was refused for its leaves.
use Rattle.std.proofs.Common.{◌≡◌, ◌⊎◌, ℕ, List, inl, inr}
use Rattle.block_index.specs.Places.{Grid}
use Rattle.leaf_set.specs.declared.leaf_fault.LeafFault.{LeafFault}
use Rattle.leaf_set.specs.declared.leaf_fault.LeafFault.TheVariants as leaf_faults
use Rattle.checkpoint.specs.Lemmas.Stages.{EndsRead}
use Rattle.checkpoint.specs.Reading.{ArePlacesAtFault, HasFault, IsPartFault, faulty, no_mesh, no_place, short, trailing}
use Rattle.checkpoint.specs.SavedStates.{SavedState}
use Rattle.checkpoint.specs.declared.fault.CheckFault.{CheckFault}
use Rattle.checkpoint.specs.declared.fault.CheckFault.TheVariants as faults
use Rattle.checkpoint.specs.declared.part.Part.{Part}
use Rattle.checkpoint.specs.declared.part.Part.TheVariants as parts

truncated : (f : CheckFault) (n : ℕ) → f ≡ faults.Truncated n → f ≡ faults.Leaves leaf_faults.Memory → ⊥
truncated f n a e = cc

magic : (f : CheckFault) → f ≡ faults.Magic → f ≡ faults.Leaves leaf_faults.Memory → ⊥
magic f a e = cc

version : (f : CheckFault) (n : ℕ) → f ≡ faults.Version n → f ≡ faults.Leaves leaf_faults.Memory → ⊥
version f n a e = cc

params : (f : CheckFault) → f ≡ faults.Params → f ≡ faults.Leaves leaf_faults.Memory → ⊥
params f a e = cc

cycle : (f : CheckFault) (n : ℕ) → f ≡ faults.Cycle n → f ≡ faults.Leaves leaf_faults.Memory → ⊥
cycle f n a e = cc

count : (f : CheckFault) (n m : ℕ) → f ≡ faults.Count n m → f ≡ faults.Leaves leaf_faults.Memory → ⊥
count f n m a e = cc

word : (f : CheckFault) (n : ℕ) → f ≡ faults.Word n → f ≡ faults.Leaves leaf_faults.Memory → ⊥
word f n a e = cc

total : (f : CheckFault) (k n m : ℕ) → f ≡ faults.Total k n m → f ≡ faults.Leaves leaf_faults.Memory → ⊥
total f k n m a e = cc

balance : (f : CheckFault) (k n m : ℕ) → f ≡ faults.Balance k n m → f ≡ faults.Leaves leaf_faults.Memory → ⊥
balance f k n m a e = cc

past_end : (f : CheckFault) (n : ℕ) → f ≡ faults.Trailing n → f ≡ faults.Leaves leaf_faults.Memory → ⊥
past_end f n a e = cc

leaves : (f : CheckFault) (l : LeafFault) → f ≡ faults.Leaves l → f ≡ faults.Leaves leaf_faults.Memory → l ≡ leaf_faults.Memory
leaves f l a e = cc

places : (grid : Grid) (bytes : List ℕ) (f : CheckFault) → ArePlacesAtFault grid bytes f → f ≡ faults.Leaves leaf_faults.Memory → ⊥
places grid bytes f (no_place at first is) e = word f at is e
places grid bytes f (no_mesh list l limits are bad other is) e = other (leaves f l is e)

part : (s : SavedState) (next : Part) (bytes : List ℕ) (f : CheckFault) → IsPartFault s next bytes f → f ≡ faults.Leaves leaf_faults.Memory → ⊥
part s parts.Magic bytes f h e = magic f h.1 e
part s parts.Version bytes f h e = version f h.found h.fault_is e
part s parts.TextLength bytes f h e = params f h.fault_is e
part s parts.Text bytes f h e = params f h.1 e
part s parts.Cycle bytes f h e = cycle f h.found h.fault_is e
part s parts.LeafCount bytes f h e = count f h.found _ h.fault_is e
part s parts.Places bytes f h e = places s.params.grid bytes f h e
part s parts.Amounts bytes f h e = h
part s parts.Totals bytes f h e = total f h.1.field _ _ h.1.fault_is e
part s parts.Gone bytes f h e = balance f h.1.field _ _ h.1.fault_is e

pub never-refused : (bytes : List ℕ) (f : CheckFault) → HasFault bytes f → f ≡ faults.Leaves leaf_faults.Memory → ⊥
never-refused bytes f (short s done which left h less is) e = truncated f _ is e
never-refused bytes f (faulty s done which here after h whole bad) e = part s which here f bad e
never-refused bytes f (trailing s left h are some is) e = past_end f _ is e

-- memory was refused, or it is a fault of the file
pub known-fault : (bytes : List ℕ) (f : CheckFault) → EndsRead bytes f → (f ≡ faults.Memory) ⊎ ((f ≡ faults.Leaves leaf_faults.Memory → ⊥) × HasFault bytes f)
known-fault bytes f h =
    elim h [
      | inl e ↦ inl e
      | inr bad ↦ inr (never-refused bytes f bad, bad)
    ]

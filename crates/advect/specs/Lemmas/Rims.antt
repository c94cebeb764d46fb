-- Lists of fluxes that get those of a field's outermost faces.
use Rattle.std.specs.Prelude.{◌≡◌, ℕ, ◌+◌, ◌*◌, ◌<◌, ◌≤◌, List, [], Some, length, slice_get, slice_index, slice_index_or}
use Rattle.grid_fluxes.specs.Axes.{Axis}
use Rattle.advect.specs.Coordinates.{face_number}
use Rattle.advect.specs.Flows.{axis_number}

-- each is as long as a side has faces
abbrev pub AreSides : ℕ → List (List ℕ) → Type 0
AreSides n lists = (k : ℕ) (q : List ℕ) → slice_get lists k ≡ Some q → length q ≡ n * n

-- the list at a position gets these fluxes, and no other changes
pub record NotesRim (n at : ℕ) (flux : ℕ → ℕ → ℕ) (old new : List (List ℕ)) : Type 0 where
  pub here : (i j : ℕ) → i < n → j < n → slice_index (slice_index_or new at []) (face_number n i j) ≡ flux i j
  pub others : (k : ℕ) → (k ≡ at → ⊥) → slice_index_or new k [] ≡ slice_index_or old k []
  pub long : length new ≡ length old
  pub sizes : AreSides n new

-- the three lists of a field get these fluxes, axis by axis, and no other changes
pub record NotesField (n field : ℕ) (flux : Axis → ℕ → ℕ → ℕ) (old new : List (List ℕ)) : Type 0 where
  pub here : (a : Axis) (i j : ℕ) → i < n → j < n → slice_index (slice_index_or new (3 * field + axis_number a) []) (face_number n i j) ≡ flux a i j
  pub earlier : (k : ℕ) → k < 3 * field → slice_index_or new k [] ≡ slice_index_or old k []
  pub later : (k : ℕ) → 3 * field + 3 ≤ k → slice_index_or new k [] ≡ slice_index_or old k []
  pub long : length new ≡ length old
  pub sizes : AreSides n new

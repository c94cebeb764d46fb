-- What an amount after an advance depends on: the cell's own amount, and the faces or the samples around it.
use Rattle.std.specs.Prelude.{◌≡◌, ℕ, Bool, cond, List, [], ◌∷◌, Some, slice_get}
use Rattle.block_index.specs.Places.{Cube}
use Rattle.block_fields.specs.States.{State, held}
use Rattle.block_fields.specs.Samples.{sample}
use Rattle.grid_fluxes.specs.Axes.{Axis, next_cell, previous_cell, first_children}
use Rattle.grid_fluxes.specs.Fluxes.{Across, Fluxes, flux_after, flux_before}

-- two states have one domain, and a cell holds the same in both
pub record SameAmount (s t : State) (f : ℕ) (c : Cube) : Type 0 where
  pub grid : s.grid ≡ t.grid
  pub edge : s.edge ≡ t.edge
  pub own : held s f c ≡ held t f c

-- the fluxes through the faces of a cell are the same in two states
pub record SameFluxes (s t : State) (across : Across) (one other : Fluxes) (f : ℕ) (c : Cube) : Type 0 where
  pub goes_up : (a : Axis) → one.goes_up a ≡ other.goes_up a
  pub before : (a : Axis) → flux_before across (one.level_flux f) a c ≡ flux_before across (other.level_flux f) a c
  pub after : (a : Axis) → flux_after s across (one.level_flux f) a c ≡ flux_after t across (other.level_flux f) a c

-- the faces whose fluxes make up that of the face at which v begins: the four finer ones, or itself
abbrev pub pieces_of : Bool → Axis → Cube → List Cube
pieces_of sums a v = cond sums (first_children a v) (v ∷ [])

-- two states have the same samples on both sides of each of these faces, told by the cells that begin there
abbrev pub SameSides : State → State → ℕ → Axis → List Cube → Type 0
SameSides s t f a faces =
    (i : ℕ) (v : Cube) → slice_get faces i ≡ Some v →
    (sample s f v ≡ sample t f v)
    × (sample s f (previous_cell a s.grid s.edge v) ≡ sample t f (previous_cell a s.grid s.edge v))

-- two states have the same samples in a cell and beside it: on both sides of all its faces, or of the finer faces
-- whose sum a face carries
pub record SameSamples (s t : State) (across : Across) (f : ℕ) (c : Cube) : Type 0 where
  pub before : (a : Axis) → SameSides s t f a (pieces_of (across.below a c) a c)
  pub after : (a : Axis) → SameSides s t f a (pieces_of (across.above a c) a (next_cell a s.grid s.edge c))

-- Advancing a state by fluxes through the faces of its cells, for whatever flux a scheme gives for the faces of each
-- level. Where cells of two levels meet, the coarse one is given the sum of the fine fluxes (Berger and Colella 1989).
use Rattle.std.specs.Prelude.{ℕ, ◌+◌, ◌-◌, Bool, false, cond, List, sum_by}
use Rattle.block_index.specs.Places.{Cube, child_of}
use Rattle.block_fields.specs.Cells.{has_cell}
use Rattle.block_fields.specs.States.{State, held, filled}
use Rattle.grid_fluxes.specs.Axes.{Axis, along_x, along_y, along_z, next_cell, previous_cell, first_children}

-- What a scheme gives: along which axes the flow goes up, and for each field, axis and cell the flux of the cell's
-- level through the face at which the cell begins. The face at the end of an axis that doesn't wrap is that of the
-- cell outside.
pub record Fluxes : Type 0 where
  pub goes_up : Axis → Bool
  pub level_flux : ℕ → Axis → Cube → ℕ

-- finer leaves lie in the cell
abbrev pub has_finer : ℕ → List Cube → Cube → Bool
has_finer n leaves c = has_cell n leaves (child_of c 0)

-- the flux through the face at which the cell v begins: the sum over the four finer faces, or the face's own
abbrev pub face_flux : Bool → (Cube → ℕ) → Axis → Cube → ℕ
face_flux sums flux a v = cond sums (sum_by flux (first_children a v)) (flux v)

-- Which faces carry the sum over finer faces, seen from a cell: the one at which it begins along an axis, and the one
-- at which it ends.
pub record Across : Type 0 where
  pub below : Axis → Cube → Bool
  pub above : Axis → Cube → Bool

-- those with finer leaves across
abbrev pub finer_across : State → Across
finer_across s = record {
  below = λ a c. has_finer s.edge s.leaves (previous_cell a s.grid s.edge c);
  above = λ a c. has_finer s.edge s.leaves (next_cell a s.grid s.edge c);
}

-- none of them: each cell by the fluxes of its own level
abbrev pub none_across : Across
none_across = record { below = λ a c. false; above = λ a c. false }

-- the flux through the face at which a cell begins, and through the one at which it ends
abbrev pub flux_before : Across → (Axis → Cube → ℕ) → Axis → Cube → ℕ
flux_before across flux a c = face_flux (across.below a c) (flux a) a c

abbrev pub flux_after : State → Across → (Axis → Cube → ℕ) → Axis → Cube → ℕ
flux_after s across flux a c = face_flux (across.above a c) (flux a) a (next_cell a s.grid s.edge c)

-- what a cell gives along an axis through its downwind face, and what it takes through the upwind one
abbrev pub given_along : State → Across → Fluxes → ℕ → Cube → Axis → ℕ
given_along s across fluxes f c a =
    cond (fluxes.goes_up a) (flux_after s across (fluxes.level_flux f) a c) (flux_before across (fluxes.level_flux f) a c)

abbrev pub taken_along : State → Across → Fluxes → ℕ → Cube → Axis → ℕ
taken_along s across fluxes f c a =
    cond (fluxes.goes_up a) (flux_before across (fluxes.level_flux f) a c) (flux_after s across (fluxes.level_flux f) a c)

abbrev pub over_axes : (Axis → ℕ) → ℕ
over_axes g = g along_x + g along_y + g along_z

-- what it gives and takes through its three downwind and three upwind faces
abbrev pub given : State → Across → Fluxes → ℕ → Cube → ℕ
given s across fluxes f c = over_axes (given_along s across fluxes f c)

abbrev pub taken : State → Across → Fluxes → ℕ → Cube → ℕ
taken s across fluxes f c = over_axes (taken_along s across fluxes f c)

-- each amount, less what its cell gives, plus what it takes, all of the old state
abbrev pub advanced_by : State → Across → Fluxes → State
advanced_by s across fluxes =
    filled s.grid s.edge s.fields s.leaves (λ f c. held s f c - given s across fluxes f c + taken s across fluxes f c)

-- the state after an advance of the composite grid of all levels
abbrev pub advanced : State → Fluxes → State
advanced s fluxes = advanced_by s (finer_across s) fluxes

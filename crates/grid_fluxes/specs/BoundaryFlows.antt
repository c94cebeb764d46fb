-- The boundary flow: what passes the outer faces of the domain.
use Rattle.std.specs.Prelude.{ℕ, cond, sum_by}
use Rattle.block_index.specs.Places.{Cube}
use Rattle.block_fields.specs.Cells.{cells}
use Rattle.block_fields.specs.States.{State}
use Rattle.grid_fluxes.specs.Axes.{Axis, next_cell, previous_cell, is_outside}
use Rattle.grid_fluxes.specs.Fluxes.{Fluxes, over_axes}

-- the flux through the face at the end of a cell, or at its beginning, where nothing but the outside lies across
abbrev pub outer_after : State → (Axis → Cube → ℕ) → Axis → Cube → ℕ
outer_after s flux a c =
    let v = next_cell a s.grid s.edge c in
    cond (is_outside a s.grid s.edge v) (flux a v) 0

abbrev pub outer_before : State → (Axis → Cube → ℕ) → Axis → Cube → ℕ
outer_before s flux a c = cond (is_outside a s.grid s.edge (previous_cell a s.grid s.edge c)) (flux a c) 0

-- what goes out of a cell through its outer faces, and what comes in through them
abbrev pub out_of : State → Fluxes → ℕ → Cube → ℕ
out_of s fluxes f c =
    over_axes (λ a. cond (fluxes.goes_up a) (outer_after s (fluxes.level_flux f) a c) (outer_before s (fluxes.level_flux f) a c))

abbrev pub into_from : State → Fluxes → ℕ → Cube → ℕ
into_from s fluxes f c =
    over_axes (λ a. cond (fluxes.goes_up a) (outer_before s (fluxes.level_flux f) a c) (outer_after s (fluxes.level_flux f) a c))

-- what goes out of the domain, and what comes in
abbrev pub out : State → Fluxes → ℕ → ℕ
out s fluxes f = sum_by (out_of s fluxes f) (cells s.edge s.leaves)

abbrev pub into : State → Fluxes → ℕ → ℕ
into s fluxes f = sum_by (into_from s fluxes f) (cells s.edge s.leaves)

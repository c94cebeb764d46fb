-- What a scheme's fluxes must keep to, so that no cell gives more than it has and no amount grows too large.
use Rattle.std.specs.Prelude.{◌≡◌, ℕ, ◌+◌, ◌*◌, ◌^◌, ◌<◌, ◌≤◌, Bool, true, false, ◌⊎◌, cond, Some, slice_get}
use Rattle.block_index.specs.Places.{Cube}
use Rattle.block_fields.specs.Cells.{block_of}
use Rattle.block_fields.specs.States.{State, held}
use Rattle.block_fields.specs.Samples.{sample}
use Rattle.grid_fluxes.specs.Axes.{Axis, next_cell, previous_cell, is_outside}
use Rattle.grid_fluxes.specs.Fluxes.{Across, Fluxes, given, has_finer, over_axes}

-- no cell of a leaf gives more of a field than it has
abbrev pub GivesWithin : State → Across → Fluxes → ℕ → Type 0
GivesWithin s across fluxes f =
    (i : ℕ) (c : Cube) → slice_get s.leaves i ≡ Some (block_of s.edge c) → given s across fluxes f c ≤ held s f c

-- only cells of a level below the finest have faces that carry sums
abbrev pub IsBelowFinest : State → Across → Type 0
IsBelowFinest s across =
    (a : Axis) (c : Cube) → ((across.below a c ≡ true) ⊎ (across.above a c ≡ true)) → c.level + 1 ≤ s.grid.finest

-- sums are carried only where finer leaves lie across
pub record IsWithinFiner (s : State) (across : Across) : Type 0 where
  pub below : (a : Axis) (c : Cube) → across.below a c ≡ true →
      has_finer s.edge s.leaves (previous_cell a s.grid s.edge c) ≡ true
  pub above : (a : Axis) (c : Cube) → across.above a c ≡ true →
      has_finer s.edge s.leaves (next_cell a s.grid s.edge c) ≡ true

-- the cell on the upwind side of the face at which v begins
abbrev pub upwind_cell : State → (Axis → Bool) → Axis → Cube → Cube
upwind_cell s goes_up a v = cond (goes_up a) (previous_cell a s.grid s.edge v) v

-- Each face whose upwind cell lies inside carries at most a share of that cell's sample: `share` parts of `den` at
-- level 0, and twice as many at each finer level. All shares together are at most the whole at the finest level.
pub record CarriesShares (s : State) (fluxes : Fluxes) (f : ℕ) (share : Axis → ℕ) (den : ℕ) : Type 0 where
  pub some : 0 < den
  pub small : over_axes share * 2 ^ s.grid.finest ≤ den
  pub face : (a : Axis) (v : Cube) → is_outside a s.grid s.edge (upwind_cell s fluxes.goes_up a v) ≡ false →
      fluxes.level_flux f a v * den ≤ sample s f (upwind_cell s fluxes.goes_up a v) * share a * 2 ^ v.level

-- no flux is above what the upwind cell holds, and none from outside is above m
pub record FluxesWithin (s : State) (fluxes : Fluxes) (f m : ℕ) : Type 0 where
  pub inside : (a : Axis) (v : Cube) → v.level ≤ s.grid.finest →
      is_outside a s.grid s.edge (upwind_cell s fluxes.goes_up a v) ≡ false →
      fluxes.level_flux f a v ≤ sample s f (upwind_cell s fluxes.goes_up a v)
  pub outside : (a : Axis) (v : Cube) → is_outside a s.grid s.edge (upwind_cell s fluxes.goes_up a v) ≡ true →
      fluxes.level_flux f a v ≤ m

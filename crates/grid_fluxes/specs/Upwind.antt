-- The upwind flux: of the amount on the upwind side of a face, the share that the flow carries through it.
use Rattle.std.specs.Prelude.{ℕ, ◌*◌, ◌^◌, ◌<◌, ◌≤◌, Bool, cond, ◌&&◌, ◌||◌}
use Rattle.cello_num.specs.Fluxes.{flux}
use Rattle.block_index.specs.Places.{Cube}
use Rattle.block_fields.specs.States.{State}
use Rattle.block_fields.specs.Samples.{sample}
use Rattle.grid_fluxes.specs.Axes.{Axis, previous_cell, is_outside}
use Rattle.grid_fluxes.specs.Fluxes.{Fluxes, over_axes}
use Rattle.grid_fluxes.specs.Bounds.{upwind_cell}

-- A flow: along each axis its speed in parts of `den` root cells a cycle, whether it goes up, and whether the outer
-- faces of the axis are closed.
pub record Flow : Type 0 where
  pub speed : Axis → ℕ
  pub goes_up : Axis → Bool
  pub closed : Axis → Bool
  pub den : ℕ

-- The flow is slow enough for a finest level: in a cycle it passes at most one cell of that level, all axes together.
pub record IsCourant (flow : Flow) (finest : ℕ) : Type 0 where
  pub some : 0 < flow.den
  pub small : over_axes flow.speed * 2 ^ finest ≤ flow.den

-- the face at which v begins is an outer face of a closed axis: one of the two cells at it lies outside
abbrev pub is_closed_face : State → Flow → Axis → Cube → Bool
is_closed_face s flow a v =
    flow.closed a && (is_outside a s.grid s.edge v || is_outside a s.grid s.edge (previous_cell a s.grid s.edge v))

-- nothing passes a closed face or comes from outside; else it is the flux of the upwind cell's sample
abbrev pub upwind_flux : State → Flow → ℕ → Axis → Cube → ℕ
upwind_flux s flow f a v =
    let u = upwind_cell s flow.goes_up a v in
    cond (is_closed_face s flow a v) 0
    (cond (is_outside a s.grid s.edge u) 0 (flux (sample s f u) (flow.speed a) flow.den v.level))

abbrev pub upwind : State → Flow → Fluxes
upwind s flow = record { goes_up = flow.goes_up; level_flux = upwind_flux s flow }

-- The flow of parameters.
use Rattle.std.specs.Prelude.{ℕ, Bool, true, false, ◌==◌, cond, ℤ, pos, negsuc, nat_abs, List, slice_index_or}
use Rattle.params_check.specs.Parameters.{Parameters}
use Rattle.params_check.specs.declared.axis_kind.AxisKind.{AxisKind}
use Rattle.params_check.specs.declared.axis_kind.AxisKind.TheVariants.{Periodic, Outflow, Closed}
use Rattle.grid_fluxes.specs.Axes.{Axis, along_x, along_y, along_z}
use Rattle.grid_fluxes.specs.Upwind.{Flow}

-- the axes by number
abbrev pub axis_number : Axis → ℕ
axis_number along_x = 0
axis_number along_y = 1
axis_number along_z = 2

abbrev pub axis_numbered : ℕ → Axis
axis_numbered k = cond (k == 0) along_x (cond (k == 1) along_y along_z)

-- a velocity that isn't below 0 goes up
abbrev pub is_up : ℤ → Bool
is_up (pos v) = true
is_up (negsuc v) = false

abbrev pub velocity_along : List ℤ → Axis → ℤ
velocity_along velocity a = slice_index_or velocity (axis_number a) (pos 0)

abbrev pub goes_up_by : List ℤ → Axis → Bool
goes_up_by velocity a = is_up (velocity_along velocity a)

abbrev pub is_closed : AxisKind → Bool
is_closed Periodic = false
is_closed Outflow = false
is_closed Closed = true

abbrev pub flow_of : Parameters → Flow
flow_of p = record {
  speed = λ a. nat_abs (velocity_along p.velocity a);
  goes_up = goes_up_by p.velocity;
  closed = λ a. is_closed (slice_index_or p.axes (axis_number a) Periodic);
  den = p.den;
}

-- The flow out of the domain as it is summed up: leaf by leaf and axis by axis, through the side that lies downwind, in
-- amounts that are added field by field.
use Rattle.std.specs.Prelude.{◌≡◌, ℕ, ◌+◌, ◌*◌, ◌^◌, ◌<◌, ◌≤◌, ◌==◌, Bool, false, cond, List, slice_index, sum, sum_by}
use Rattle.block_index.specs.Places.{Cube, Grid}
use Rattle.grid_fluxes.specs.Axes.{Axis, along_x, along_y, along_z, coordinate, trees_along, wraps_along}
use Rattle.grid_fluxes.specs.Fluxes.{over_axes}
use Rattle.advect.specs.FaceFluxes.{FaceFluxState, high_of, low_of}
use Rattle.advect.specs.Flows.{goes_up_by}
use Rattle.flux_register.specs.declared.outer_sides.Line.{Line}
use Rattle.flux_register.specs.declared.outer_sides.Line.TheVariants.{X, Y, Z}
use Rattle.flux_register.specs.Cells.{FluxState}

abbrev pub axis_named : Line → Axis
axis_named X = along_x
axis_named Y = along_y
axis_named Z = along_z

-- the side of a place at the end of an axis, or the one at its beginning, is an outer side of the domain
abbrev pub is_outer_side : Grid → Cube → Axis → Bool → Bool
is_outer_side grid c a end =
    cond (wraps_along a grid) false (cond end (coordinate a c + 1 == trees_along a grid * 2 ^ c.level) (coordinate a c == 0))

-- what goes out of the domain through the side of a leaf that lies downwind along an axis, and through all three
abbrev pub out_along : Grid → Cube → FaceFluxState → ℕ → Axis → ℕ
out_along grid c faces f a =
    cond (is_outer_side grid c a (goes_up_by faces.velocity a))
    (sum (cond (goes_up_by faces.velocity a) (high_of faces f a) (low_of faces f a))) 0

abbrev pub out_of_leaf : Grid → Cube → FaceFluxState → ℕ → ℕ
out_of_leaf grid c faces f = over_axes (out_along grid c faces f)

-- and out of all leaves
abbrev pub out_of_cells : Grid → List FluxState → ℕ → ℕ
out_of_cells grid cells f = sum_by (λ x. out_of_leaf grid x.block.place x.faces f) cells

-- there is room for more of each of so many fields
abbrev pub HasRoom : ℕ → (ℕ → ℕ) → List ℕ → Type 0
HasRoom fields more old = (f : ℕ) → f < fields → slice_index old f + more f ≤ 2 ^ 40

-- so much of each of so many fields is added, and nothing else is changed
pub record Adds (fields : ℕ) (more : ℕ → ℕ) (old new : List ℕ) : Type 0 where
  pub each : (f : ℕ) → f < fields → slice_index new f ≡ slice_index old f + more f
  pub rest : (f : ℕ) → fields ≤ f → slice_index new f ≡ slice_index old f

-- The fluxes through the outermost faces of a block, as plain data.
use Rattle.std.specs.Prelude.{◌≡◌, ℕ, ◌+◌, ◌*◌, ◌%◌, ◌^◌, ◌<◌, ◌≤◌, Bool, true, false, ◌||◌, ◌==◌, cond, List, [], Some, length, replicate, slice_get, slice_index, slice_index_or, ℤ, pos, negsuc, ◌∷◌, nat_abs}
use Rattle.block_index.specs.Beyond.{Offset}
use Rattle.grid_fluxes.specs.Axes.{Axis, along_x, along_y, along_z}
use Rattle.advect.specs.Coordinates.{face_number}
use Rattle.advect.specs.Flows.{axis_number, goes_up_by}
use Rattle.advect.specs.OwnFluxes.{FacesOfBlock}

-- How many cells stand along an edge of the block, and how many fields it has; the velocity and the denominator by
-- which the fluxes were made; and for each field, axis by axis, the fluxes through the faces at which the block begins,
-- and through those at which it ends.
pub record FaceFluxState : Type 0 where
  pub edge : ℕ
  pub fields : ℕ
  pub velocity : List ℤ
  pub den : ℕ
  pub low : List (List ℕ)
  pub high : List (List ℕ)

abbrev pub face_fluxes : ℕ → ℕ → List ℤ → ℕ → List (List ℕ) → List (List ℕ) → FaceFluxState
face_fluxes edge fields velocity den low high =
    record { edge = edge; fields = fields; velocity = velocity; den = den; low = low; high = high }

-- the most that a face carries, and the most that four faces carry
abbrev pub greatest_flux : ℕ
greatest_flux = 2 ^ 42

-- a list of fluxes of n * n faces
abbrev pub AreFluxes : ℕ → List ℕ → Type 0
AreFluxes n q = (length q ≡ n * n) × ((k : ℕ) → slice_index q k ≤ greatest_flux)

-- the limits of all face fluxes
pub record IsFaceFluxes (faces : FaceFluxState) : Type 0 where
  pub even : faces.edge % 2 ≡ 0
  pub least : 4 ≤ faces.edge
  pub most : faces.edge ≤ 16
  pub few : faces.fields ≤ 4
  pub three : length faces.velocity ≡ 3
  pub all_low : length faces.low ≡ 3 * faces.fields
  pub all_high : length faces.high ≡ 3 * faces.fields
  pub each_low : (k : ℕ) (q : List ℕ) → slice_get faces.low k ≡ Some q → AreFluxes faces.edge q
  pub each_high : (k : ℕ) (q : List ℕ) → slice_get faces.high k ≡ Some q → AreFluxes faces.edge q

-- those that nothing was written to
abbrev pub no_fluxes : ℕ → ℕ → FaceFluxState
no_fluxes n fields =
    face_fluxes n fields (pos 0 ∷ pos 0 ∷ pos 0 ∷ []) 1 (replicate (3 * fields) (replicate (n * n) 0)) (replicate (3 * fields) (replicate (n * n) 0))

-- ---- by axis, and by side

abbrev pub low_of : FaceFluxState → ℕ → Axis → List ℕ
low_of faces f a = slice_index_or faces.low (3 * f + axis_number a) []

abbrev pub high_of : FaceFluxState → ℕ → Axis → List ℕ
high_of faces f a = slice_index_or faces.high (3 * f + axis_number a) []

-- a direction that is a side: a step along one axis alone
pub record IsSide (d : Offset) : Type 0 where
  pub one_step : nat_abs d.x + nat_abs d.y + nat_abs d.z ≡ 1

abbrev pub is_step : ℤ → Bool
is_step s = nat_abs s == 1

-- the axis of a side, and whether the side is the one at the axis' end
abbrev pub axis_of : Offset → Axis
axis_of d = cond (is_step d.x) along_x (cond (is_step d.y) along_y along_z)

abbrev pub is_forward : ℤ → Bool
is_forward (pos u) = u == 1
is_forward (negsuc u) = false

abbrev pub is_end : Offset → Bool
is_end d = is_forward d.x || is_forward d.y || is_forward d.z

-- the fluxes on a side
abbrev pub fluxes_on : FaceFluxState → ℕ → Offset → List ℕ
fluxes_on faces f d = cond (is_end d) (high_of faces f (axis_of d)) (low_of faces f (axis_of d))

-- the flow goes out of the block through this side
abbrev pub flows_out : FaceFluxState → Offset → Bool
flows_out faces d =
    cond (is_end d) (goes_up_by faces.velocity (axis_of d)) (cond (goes_up_by faces.velocity (axis_of d)) false true)

-- the face fluxes are those of a block's own fluxes
pub record HoldsFluxes (own : FacesOfBlock) (faces : FaceFluxState) : Type 0 where
  pub low : (f : ℕ) (a : Axis) (i j : ℕ) → f < faces.fields → i < faces.edge → j < faces.edge →
      slice_index (low_of faces f a) (face_number faces.edge i j) ≡ own f a 0 i j
  pub high : (f : ℕ) (a : Axis) (i j : ℕ) → f < faces.fields → i < faces.edge → j < faces.edge →
      slice_index (high_of faces f a) (face_number faces.edge i j) ≡ own f a faces.edge i j

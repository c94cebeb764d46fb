-- What a block holds and finds for a cell of the mesh: its amount, and the fluxes through the faces at which it begins
-- and ends along an axis.
use Rattle.std.specs.Prelude.{◌≡◌, ℕ, ◌+◌, ◌%◌, List, Some, length, slice_get, slice_index}
use Rattle.block_index.specs.Places.{Cube, Grid}
use Rattle.block_fields.specs.Blocks.{BlockState, IsBlock, amount_at}
use Rattle.grid_fluxes.specs.Axes.{Axis}
use Rattle.grid_fluxes.specs.Upwind.{Flow}
use Rattle.advect.specs.Coordinates.{along, across_first, across_second, face_number}
use Rattle.advect.specs.FaceFluxes.{FaceFluxState, high_of, low_of}
use Rattle.advect.specs.OwnFluxes.{FacesOfBlock, IsProvisional, own_flux}

abbrev pub amount_of : ℕ → BlockState → ℕ → Cube → ℕ
amount_of n b f c = amount_at b f (c.x % n) (c.y % n) (c.z % n)

abbrev pub own_before : ℕ → FacesOfBlock → ℕ → Axis → Cube → ℕ
own_before n own f a c =
    let x = c.x % n in let y = c.y % n in let z = c.z % n in
    own f a (along a x y z) (across_first a x y z) (across_second a x y z)

abbrev pub own_after : ℕ → FacesOfBlock → ℕ → Axis → Cube → ℕ
own_after n own f a c =
    let x = c.x % n in let y = c.y % n in let z = c.z % n in
    own f a (along a x y z + 1) (across_first a x y z) (across_second a x y z)

-- the flux that is noted for such a face where it is an outermost face of the block
abbrev pub noted_before : ℕ → FaceFluxState → ℕ → Axis → Cube → ℕ
noted_before n faces f a c =
    let x = c.x % n in let y = c.y % n in let z = c.z % n in
    slice_index (low_of faces f a) (face_number n (across_first a x y z) (across_second a x y z))

abbrev pub noted_after : ℕ → FaceFluxState → ℕ → Axis → Cube → ℕ
noted_after n faces f a c =
    let x = c.x % n in let y = c.y % n in let z = c.z % n in
    slice_index (high_of faces f a) (face_number n (across_first a x y z) (across_second a x y z))

-- blocks, one for each of others, that are these advanced by their own upwind fluxes
pub record AreProvisional (flow : Flow) (grid : Grid) (blocks news : List BlockState) : Type 0 where
  pub one_each : length news ≡ length blocks
  pub limits : (i : ℕ) (new : BlockState) → slice_get news i ≡ Some new → IsBlock new
  pub each : (i : ℕ) (b new : BlockState) → slice_get blocks i ≡ Some b → slice_get news i ≡ Some new →
      IsProvisional (own_flux flow grid b) flow.goes_up b new

-- How far blocks are advanced one after another.
use Rattle.std.specs.Prelude.{◌≡◌, ℕ, ◌<◌, ◌≤◌, List, Some, length, slice_get}
use Rattle.block_fields.specs.Blocks.{BlockState}
use Rattle.params_check.specs.Parameters.{Parameters}
use Rattle.advect.specs.FaceFluxes.{FaceFluxState}
use Rattle.parallel_maps.specs.Advances.{IsAdvanced}

-- the first blocks, so many, are advanced, and the others are as before
pub record AdvancesUpTo (p : Parameters) (count : ℕ) (befores blocks : List BlockState) (faces : List FaceFluxState) : Type 0 where
  pub one_each : length blocks ≡ length befores
  pub counted : length faces ≡ count
  pub ahead : (i : ℕ) → count ≤ i → slice_get blocks i ≡ slice_get befores i
  pub each : (i : ℕ) (b new : BlockState) (q : FaceFluxState) → i < count → slice_get befores i ≡ Some b → slice_get blocks i ≡ Some new →
      slice_get faces i ≡ Some q → IsAdvanced p b new q

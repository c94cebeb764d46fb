-- Blocks that were advanced, and those from which they come.
use Rattle.std.specs.Prelude.{List}
use Rattle.block_index.specs.Places.{Cube}
use Rattle.block_fields.specs.Blocks.{BlockState}
use Rattle.advect.specs.FaceFluxes.{FaceFluxState}
use Rattle.flux_register.specs.Made.{AreUpwindAdvanced}
use Rattle.params_check.specs.Parameters.{Parameters}
use Rattle.run_core.specs.Runs.{AreBlocksFor}
use Rattle.run_core.specs.Works.{AreWithinLimits, HoldAround}

-- blocks and the fluxes of their faces are what an advance makes of blocks of a mesh
pub record AreAdvancedBlocks (p : Parameters) (mesh : List Cube) (blocks : List BlockState) (faces : List FaceFluxState) : Type 0 where
  pub befores : List BlockState
  pub are : AreBlocksFor p mesh befores
  pub limits : AreWithinLimits p befores
  pub around : HoldAround p befores
  pub advanced : AreUpwindAdvanced p befores blocks faces

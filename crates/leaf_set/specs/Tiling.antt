-- What a leaf set is: a domain, and the places of its leaves in order.
use Rattle.std.specs.Prelude.{List}
use Rattle.block_index.specs.Places.{Cube, Grid, IsDomain}
use Rattle.leaf_set.specs.Meshes.{IsMesh, IsBalanced}

pub record Tiling : Type 0 where
  pub grid : Grid
  pub places : List Cube

-- the places are a balanced mesh of the domain
pub record IsTiling (t : Tiling) : Type 0 where
  pub domain : IsDomain t.grid
  pub mesh : IsMesh t.grid t.places
  pub balanced : IsBalanced t.grid t.places

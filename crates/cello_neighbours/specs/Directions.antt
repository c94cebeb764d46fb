-- Directions from a leaf.
use Rattle.std.specs.Prelude.{◌≡◌, pos}
use Rattle.block_index.specs.Axes.{IsUnitStep}
use Rattle.block_index.specs.Beyond.{Offset}

-- the limits of every direction: steps of -1, 0 or 1, along some axis not 0
pub record IsDirection (d : Offset) : Type 0 where
  pub x : IsUnitStep d.x
  pub y : IsUnitStep d.y
  pub z : IsUnitStep d.z
  pub some : d.x ≡ pos 0 → d.y ≡ pos 0 → d.z ≡ pos 0 → ⊥

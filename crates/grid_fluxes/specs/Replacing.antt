-- One face of a cell that comes to carry the sum over finer faces in place of its own flux.
use Rattle.std.specs.Prelude.{◌≡◌, true, false}
use Rattle.block_index.specs.Places.{Cube}
use Rattle.grid_fluxes.specs.Axes.{Axis}
use Rattle.grid_fluxes.specs.Fluxes.{Across}

-- of the faces of c, the one at which it ends along an axis is replaced
pub record ReplacesAbove (one other : Across) (a : Axis) (c : Cube) : Type 0 where
  pub own : one.above a c ≡ false
  pub sum : other.above a c ≡ true
  pub other_axes : (b : Axis) → (b ≡ a → ⊥) → other.above b c ≡ one.above b c
  pub below : (b : Axis) → other.below b c ≡ one.below b c

-- of the faces of c, the one at which it begins along an axis is replaced
pub record ReplacesBelow (one other : Across) (a : Axis) (c : Cube) : Type 0 where
  pub own : one.below a c ≡ false
  pub sum : other.below a c ≡ true
  pub other_axes : (b : Axis) → (b ≡ a → ⊥) → other.below b c ≡ one.below b c
  pub above : (b : Axis) → other.above b c ≡ one.above b c

-- no face of c is replaced
pub record ReplacesNone (one other : Across) (c : Cube) : Type 0 where
  pub below : (b : Axis) → other.below b c ≡ one.below b c
  pub above : (b : Axis) → other.above b c ≡ one.above b c

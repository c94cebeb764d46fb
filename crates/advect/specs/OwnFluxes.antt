-- The fluxes that a block finds by itself, from its amounts and its ghosts, and its amounts after an advance by them.
use Rattle.std.specs.Prelude.{◌≡◌, ℕ, zero, suc, ◌+◌, ◌-◌, ◌*◌, ◌^◌, ◌<◌, ◌≤◌, Bool, false, ◌&&◌, ◌||◌, ◌==◌, cond, length, ℤ, pos, negsuc}
use Rattle.cello_num.specs.Fluxes.{flux}
use Rattle.block_index.specs.Places.{Grid}
use Rattle.block_fields.specs.Blocks.{BlockState, amount_at, seen_at}
use Rattle.grid_fluxes.specs.Axes.{Axis, along_x, along_y, along_z, coordinate, trees_along, wraps_along}
use Rattle.grid_fluxes.specs.Fluxes.{over_axes}
use Rattle.grid_fluxes.specs.Upwind.{Flow}
use Rattle.advect.specs.Coordinates.{along, across_first, across_second}

-- For each field and axis the fluxes through the faces of a block's cells: the one at which the cell begins that has a
-- coordinate along the axis and two across. The coordinate along the axis goes to n, for the faces at the end.
abbrev pub FacesOfBlock : Type 0
FacesOfBlock = ℕ → Axis → ℕ → ℕ → ℕ → ℕ

-- ---- an advance by any scheme's fluxes

-- what the cell at three coordinates gives through its downwind face along an axis, and takes through the upwind one
abbrev pub gives_along : FacesOfBlock → (Axis → Bool) → ℕ → ℕ → ℕ → ℕ → Axis → ℕ
gives_along own goes_up f x y z a =
    let u = along a x y z in let i = across_first a x y z in let j = across_second a x y z in
    cond (goes_up a) (own f a (u + 1) i j) (own f a u i j)

abbrev pub takes_along : FacesOfBlock → (Axis → Bool) → ℕ → ℕ → ℕ → ℕ → Axis → ℕ
takes_along own goes_up f x y z a =
    let u = along a x y z in let i = across_first a x y z in let j = across_second a x y z in
    cond (goes_up a) (own f a u i j) (own f a (u + 1) i j)

-- its amount, less what it gives, plus what it takes
abbrev pub provisional : FacesOfBlock → (Axis → Bool) → BlockState → ℕ → ℕ → ℕ → ℕ → ℕ
provisional own goes_up b f x y z =
    amount_at b f x y z - over_axes (gives_along own goes_up f x y z) + over_axes (takes_along own goes_up f x y z)

-- the block after an advance: other amounts, the second copy as what the amounts were, and nothing else changed
pub record IsProvisional (own : FacesOfBlock) (goes_up : Axis → Bool) (b new : BlockState) : Type 0 where
  pub place : new.place ≡ b.place
  pub edge : new.edge ≡ b.edge
  pub depth : new.depth ≡ b.depth
  pub ghosts : new.ghosts ≡ b.ghosts
  pub before : new.before ≡ b.amounts
  pub fields : length new.amounts ≡ length b.amounts
  pub amounts : (f x y z : ℕ) → f < length b.amounts → x < b.edge → y < b.edge → z < b.edge →
      amount_at new f x y z ≡ provisional own goes_up b f x y z

-- ---- the upwind fluxes

-- what a block sees at a coordinate along an axis and two across
abbrev pub seen_on : BlockState → ℕ → Axis → ℤ → ℕ → ℕ → ℕ
seen_on b f along_x u i j = seen_at b f u (pos i) (pos j)
seen_on b f along_y u i j = seen_at b f (pos i) u (pos j)
seen_on b f along_z u i j = seen_at b f (pos i) (pos j) u

-- the coordinate before another
abbrev pub one_before : ℕ → ℤ
one_before zero = negsuc 0
one_before (suc u) = pos u

-- the coordinate on the upwind side of the faces at a coordinate
abbrev pub upwind_side : Bool → ℕ → ℤ
upwind_side up u = cond up (one_before u) (pos u)

-- the faces at a coordinate from 0 to n along an axis are outer faces of the domain
abbrev pub is_outer : Grid → BlockState → Axis → ℕ → Bool
is_outer grid b a u =
    let at = coordinate a b.place in
    cond (wraps_along a grid) false
    (((u == 0) && (at == 0)) || ((u == b.edge) && (at + 1 == trees_along a grid * 2 ^ b.place.level)))

-- nothing passes them: they are outer faces of a closed axis, or outer faces whose upwind side is outside
abbrev pub is_barred : Flow → Grid → BlockState → Axis → ℕ → Bool
is_barred flow grid b a u =
    is_outer grid b a u && (flow.closed a || cond (flow.goes_up a) (u == 0) (u == b.edge))

abbrev pub own_flux : Flow → Grid → BlockState → FacesOfBlock
own_flux flow grid b f a u i j =
    cond (is_barred flow grid b a u) 0
    (flux (seen_on b f a (upwind_side (flow.goes_up a) u) i j) (flow.speed a) flow.den b.place.level)

-- ---- bounds

-- no amount of the block is above this, and no ghost beside a face of it
pub record HoldsAtMost (most : ℕ) (b : BlockState) : Type 0 where
  pub amounts : (f x y z : ℕ) → f < length b.amounts → x < b.edge → y < b.edge → z < b.edge → amount_at b f x y z ≤ most
  pub below : (f : ℕ) (a : Axis) (i j : ℕ) → f < length b.amounts → i < b.edge → j < b.edge → seen_on b f a (negsuc 0) i j ≤ most
  pub above : (f : ℕ) (a : Axis) (i j : ℕ) → f < length b.amounts → i < b.edge → j < b.edge → seen_on b f a (pos b.edge) i j ≤ most

-- What an advance has made of the blocks of a mesh: amounts and fluxes by each block's own fluxes.
use Rattle.std.specs.Prelude.{◌≡◌, ℕ, ◌+◌, ◌%◌, ◌^◌, ◌<◌, ◌≤◌, ◌==◌, cond, List, Some, length, nat_abs, slice_get, slice_index}
use Rattle.cello_num.specs.Fluxes.{flux}
use Rattle.block_index.specs.Places.{Cube, Grid}
use Rattle.leaf_set.specs.Meshes.{IsLeaf}
use Rattle.block_fields.specs.Blocks.{BlockState}
use Rattle.block_fields.specs.BlockStates.{AreBlocksOf, state_before}
use Rattle.block_fields.specs.Cells.{block_of}
use Rattle.block_fields.specs.States.{State, held}
use Rattle.grid_fluxes.specs.Axes.{Axis, next_cell}
use Rattle.grid_fluxes.specs.Bounds.{GivesWithin, IsWithinFiner}
use Rattle.grid_fluxes.specs.Fluxes.{Across, Fluxes, advanced_by}
use Rattle.params_check.specs.Parameters.{Parameters}
use Rattle.advect.specs.CellFluxes.{AreProvisional}
use Rattle.advect.specs.Coordinates.{along, across_first, across_second, face_number}
use Rattle.advect.specs.FaceFluxes.{FaceFluxState, HoldsFluxes, IsFaceFluxes, high_of, low_of}
use Rattle.advect.specs.Flows.{flow_of, goes_up_by, velocity_along}
use Rattle.advect.specs.OwnFluxes.{FacesOfBlock, IsProvisional, own_flux, seen_on, upwind_side}
use Rattle.flux_register.specs.Cells.{FluxPart, FluxProblem, state_in, unadvanced}

-- The fluxes of a block: those of its outermost faces are kept, and inside they are the upwind ones.
abbrev pub kept_flux : BlockState → FaceFluxState → FacesOfBlock
kept_flux b faces f a u i j =
    cond (u == 0) (slice_index (low_of faces f a) (face_number b.edge i j))
    (cond (u == b.edge) (slice_index (high_of faces f a) (face_number b.edge i j))
    (flux (seen_on b f a (upwind_side (goes_up_by faces.velocity a) u) i j) (nat_abs (velocity_along faces.velocity a)) faces.den b.place.level))

-- the flux of a block through the face at which a cell begins along an axis, and through the one at which it ends
abbrev pub kept_before : ℕ → BlockState → FaceFluxState → ℕ → Axis → Cube → ℕ
kept_before n b faces f a c =
    let x = c.x % n in let y = c.y % n in let z = c.z % n in
    kept_flux b faces f a (along a x y z) (across_first a x y z) (across_second a x y z)

abbrev pub kept_after : ℕ → BlockState → FaceFluxState → ℕ → Axis → Cube → ℕ
kept_after n b faces f a c =
    let x = c.x % n in let y = c.y % n in let z = c.z % n in
    kept_flux b faces f a (along a x y z + 1) (across_first a x y z) (across_second a x y z)

-- the fluxes of a block are those that a scheme gives on the state before the advance
pub record HasFluxesOf (s : State) (fluxes : Fluxes) (b : BlockState) (faces : FaceFluxState) : Type 0 where
  pub goes_up : (a : Axis) → goes_up_by faces.velocity a ≡ fluxes.goes_up a
  pub before : (f : ℕ) (a : Axis) (c : Cube) → f < s.fields → block_of s.edge c ≡ b.place →
      kept_before s.edge b faces f a c ≡ fluxes.level_flux f a c
  pub after : (f : ℕ) (a : Axis) (c : Cube) → f < s.fields → block_of s.edge c ≡ b.place →
      kept_after s.edge b faces f a c ≡ fluxes.level_flux f a (next_cell a s.grid s.edge c)

-- A scheme's fluxes can be replaced on the composite grid in any order: whichever of the faces with finer leaves across
-- carry sums already, no cell gives more than it has, and no amount grows too large.
pub record CanReplace (s : State) (fluxes : Fluxes) : Type 0 where
  pub gives : (across : Across) (f : ℕ) → f < s.fields → IsWithinFiner s across → GivesWithin s across fluxes f
  pub small : (across : Across) (f : ℕ) (c : Cube) → f < s.fields → IsWithinFiner s across → IsLeaf s.leaves (block_of s.edge c) →
      held (advanced_by s across fluxes) f c ≤ 2 ^ 44

-- the fluxes of all blocks are those of a scheme
pub record IsMadeBy (p : FluxProblem) (fluxes : Fluxes) : Type 0 where
  pub each : (i : ℕ) (k : FluxPart) → slice_get p.parts i ≡ Some k → HasFluxesOf (state_in p) fluxes k.before k.faces
  pub replaces : CanReplace (state_in p) fluxes

-- The blocks of a mesh and the fluxes of their faces are what an advance by each block's own fluxes made of them, and
-- these are the fluxes that a scheme gives on the state in the blocks' second copies.
pub record AreAdvancedBy (grid : Grid) (mesh : List Cube) (n fields depth : ℕ) (blocks : List BlockState) (faces : List FaceFluxState) (fluxes : Fluxes) : Type 0 where
  pub sizes : AreBlocksOf mesh n fields depth blocks
  pub one_each : length faces ≡ length blocks
  pub limits : (i : ℕ) (q : FaceFluxState) → slice_get faces i ≡ Some q → IsFaceFluxes q × (q.edge ≡ n) × (q.fields ≡ fields)
  pub provisional : (i : ℕ) (b : BlockState) (q : FaceFluxState) → slice_get blocks i ≡ Some b → slice_get faces i ≡ Some q →
      IsProvisional (kept_flux (unadvanced b) q) (goes_up_by q.velocity) (unadvanced b) b
  pub each : (i : ℕ) (b : BlockState) (q : FaceFluxState) → slice_get blocks i ≡ Some b → slice_get faces i ≡ Some q →
      HasFluxesOf (state_before grid n fields blocks) fluxes (unadvanced b) q
  pub replaces : CanReplace (state_before grid n fields blocks) fluxes

-- blocks, and the fluxes of their faces, that `advance` makes of others by parameters, one for each of them
pub record AreUpwindAdvanced (p : Parameters) (befores blocks : List BlockState) (faces : List FaceFluxState) : Type 0 where
  pub provisional : AreProvisional (flow_of p) p.grid befores blocks
  pub one_each : length faces ≡ length befores
  pub limits : (i : ℕ) (q : FaceFluxState) → slice_get faces i ≡ Some q → IsFaceFluxes q × (q.edge ≡ p.block) × (q.fields ≡ length p.fields)
  pub made_by : (i : ℕ) (q : FaceFluxState) → slice_get faces i ≡ Some q → (q.velocity ≡ p.velocity) × (q.den ≡ p.den)
  pub noted : (i : ℕ) (b : BlockState) (q : FaceFluxState) → slice_get befores i ≡ Some b → slice_get faces i ≡ Some q →
      HoldsFluxes (own_flux (flow_of p) p.grid b) q

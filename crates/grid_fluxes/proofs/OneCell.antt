-- What a cell's amount after an advance depends on.
use Rattle.std.proofs.Common.{◌≡◌, ℕ, ◌+◌, ◌-◌, ◌<◌, Bool, true, false, cond, refl, sym, ap, ◌∙◌, Some, slice_get}
use Rattle.cello_num.specs.Fluxes.{flux}
use Rattle.block_index.specs.Places.{Cube, Grid}
use Rattle.leaf_set.specs.Meshes.{IsLeaf}
use Rattle.block_fields.specs.Cells.{block_of}
use Rattle.block_fields.specs.States.{State, IsState, held}
use Rattle.block_fields.specs.Samples.{sample}
use Rattle.block_fields.proofs.Sums.{sum-same}
use Rattle.grid_fluxes.specs.Axes.{Axis, along_x, along_y, along_z, next_cell, previous_cell, first_children, is_outside}
use Rattle.grid_fluxes.specs.Fluxes.{Across, Fluxes, face_flux, flux_before, flux_after, given, taken, given_along, taken_along, advanced_by}
use Rattle.grid_fluxes.specs.Surroundings.{SameAmount, SameFluxes, SameSamples, SameSides, pieces_of}
use Rattle.grid_fluxes.specs.Upwind.{Flow, upwind, upwind_flux, is_closed_face}
use Rattle.grid_fluxes.proofs.Replacing.{held-advanced_by}

-- ---- by its fluxes

chosen : (b d : Bool) (p q u v : ℕ) → b ≡ d → p ≡ u → q ≡ v → cond b p q ≡ cond d u v
chosen b d p q u v e h k = cc

amount : (h g t k u w : ℕ) → h ≡ k → g ≡ u → t ≡ w → h - g + t ≡ k - u + w
amount h g t k u w e f d = cc

sum_same : (x y z u v w : ℕ) → x ≡ u → y ≡ v → z ≡ w → x + y + z ≡ u + v + w
sum_same x y z u v w e f d = cc

module _ (s t : State) (across : Across) (one other : Fluxes) (f : ℕ) (c : Cube) (same : SameFluxes s t across one other f c) where
  gives_same : (a : Axis) → given_along s across one f c a ≡ given_along t across other f c a
  gives_same a =
      chosen (one.goes_up a) (other.goes_up a) (flux_after s across (one.level_flux f) a c) (flux_before across (one.level_flux f) a c) (flux_after t across (other.level_flux f) a c) (flux_before across (other.level_flux f) a c) (same.goes_up a) (same.after a) (same.before a)

  takes_same : (a : Axis) → taken_along s across one f c a ≡ taken_along t across other f c a
  takes_same a =
      chosen (one.goes_up a) (other.goes_up a) (flux_before across (one.level_flux f) a c) (flux_after s across (one.level_flux f) a c) (flux_before across (other.level_flux f) a c) (flux_after t across (other.level_flux f) a c) (same.goes_up a) (same.before a) (same.after a)

  pub held-same_fluxes : IsState s → IsState t → f < s.fields → f < t.fields → IsLeaf s.leaves (block_of s.edge c) → IsLeaf t.leaves (block_of t.edge c) → SameAmount s t f c → held (advanced_by s across one) f c ≡ held (advanced_by t across other) f c
  held-same_fluxes w v h k leaf twin own =
      let g : given s across one f c ≡ given t across other f c = sum_same (given_along s across one f c along_x) (given_along s across one f c along_y) (given_along s across one f c along_z) (given_along t across other f c along_x) (given_along t across other f c along_y) (given_along t across other f c along_z) (gives_same along_x) (gives_same along_y) (gives_same along_z) in
      let e : taken s across one f c ≡ taken t across other f c = sum_same (taken_along s across one f c along_x) (taken_along s across one f c along_y) (taken_along s across one f c along_z) (taken_along t across other f c along_x) (taken_along t across other f c along_y) (taken_along t across other f c along_z) (takes_same along_x) (takes_same along_y) (takes_same along_z) in
      held-advanced_by s across one f c w h leaf
      ∙ amount (held s f c) (given s across one f c) (taken s across one f c) (held t f c) (given t across other f c) (taken t across other f c) own.own g e
      ∙ sym (held-advanced_by t across other f c v k twin)

-- ---- under the upwind flux, by its samples

face_flux-same : (sums : Bool) (p q : Cube → ℕ) (a : Axis) (v : Cube) → ((i : ℕ) (u : Cube) → slice_get (pieces_of sums a v) i ≡ Some u → p u ≡ q u) → face_flux sums p a v ≡ face_flux sums q a v
face_flux-same true p q a v h = sum-same p q (first_children a v) h
face_flux-same false p q a v h = h 0 v refl

module _ (s t : State) (flow : Flow) (f : ℕ) (same_grid : s.grid ≡ t.grid) (same_edge : s.edge ≡ t.edge) where
  -- the upwind cell of a face, for its domain and how many cells stand along an edge
  abbrev source : Axis → Cube → Grid → ℕ → Cube
  source a v grid n = cond (flow.goes_up a) (previous_cell a grid n v) v

  -- the flux of an amount of the upwind cell
  abbrev passes : Axis → Cube → Grid → ℕ → ℕ → ℕ
  passes a v grid n q =
      cond (is_closed_face (record s { grid = grid; edge = n }) flow a v) 0
      (cond (is_outside a grid n (source a v grid n)) 0 (flux q (flow.speed a) flow.den v.level))

  same_source : (a : Axis) (v : Cube) → source a v s.grid s.edge ≡ source a v t.grid t.edge
  same_source a v = ap (λ g. source a v g s.edge) same_grid ∙ ap (source a v t.grid) same_edge

  same_sample : (a : Axis) (v : Cube) → sample s f v ≡ sample t f v → sample s f (previous_cell a s.grid s.edge v) ≡ sample t f (previous_cell a s.grid s.edge v) → sample s f (source a v s.grid s.edge) ≡ sample t f (source a v s.grid s.edge)
  same_sample a v h k = either (flow.goes_up a)
    where
      either : (up : Bool) → sample s f (cond up (previous_cell a s.grid s.edge v) v) ≡ sample t f (cond up (previous_cell a s.grid s.edge v) v)
      either true = k
      either false = h

  upwind_flux-same : (a : Axis) (v : Cube) → sample s f v ≡ sample t f v → sample s f (previous_cell a s.grid s.edge v) ≡ sample t f (previous_cell a s.grid s.edge v) → upwind_flux s flow f a v ≡ upwind_flux t flow f a v
  upwind_flux-same a v h k =
      let q = sample s f (source a v s.grid s.edge) in
      let e : q ≡ sample t f (source a v t.grid t.edge) = same_sample a v h k ∙ ap (sample t f) (same_source a v) in
      ap (λ g. passes a v g s.edge q) same_grid ∙ ap (λ n. passes a v t.grid n q) same_edge ∙ ap (passes a v t.grid t.edge) e

  same_face : (sums : Bool) (a : Axis) (v : Cube) → SameSides s t f a (pieces_of sums a v) → face_flux sums (upwind_flux s flow f a) a v ≡ face_flux sums (upwind_flux t flow f a) a v
  same_face sums a v sides =
      face_flux-same sums (upwind_flux s flow f a) (upwind_flux t flow f a) a v (λ i u e. let p = sides i u e in upwind_flux-same a u p.0 p.1)

pub upwind-SameFluxes : (s t : State) (across : Across) (flow : Flow) (f : ℕ) (c : Cube) → SameAmount s t f c → SameSamples s t across f c → SameFluxes s t across (upwind s flow) (upwind t flow) f c
upwind-SameFluxes s t across flow f c own same = record {
  goes_up = λ a. refl;
  before = λ a. same_face s t flow f own.grid own.edge (across.below a c) a c (same.before a);
  after = λ a.
      let next : next_cell a s.grid s.edge c ≡ next_cell a t.grid t.edge c = ap (λ g. next_cell a g s.edge c) own.grid ∙ ap (λ n. next_cell a t.grid n c) own.edge in
      same_face s t flow f own.grid own.edge (across.above a c) a (next_cell a s.grid s.edge c) (same.after a)
      ∙ ap (face_flux (across.above a c) (upwind_flux t flow f a) a) next;
}

-- The faces of a cell that carry the sums of used pieces, and the amount after one more.
use Rattle.std.proofs.Common.{◌≡◌, ℕ, ◌+◌, ◌-◌, ◌*◌, ◌%◌, ◌<◌, ◌≤◌, ◌==◌, Bool, true, false, cond, Some, refl, sym, ap, ◌∙◌, subst, arith, sum_by}
use Rattle.std.specs.Prelude.{slice_get}
use Rattle.std.proofs.lemmas.Bool.{and_parts, eqb-true}
use Rattle.std.proofs.lemmas.Option.{same_Some}
use Rattle.block_index.specs.Places.{Cube, IsInside, child_of}
use Rattle.leaf_set.specs.Meshes.{IsLeaf}
use Rattle.block_fields.specs.Cells.{block_of}
use Rattle.block_fields.specs.States.{State, held}
use Rattle.grid_fluxes.specs.Axes.{Axis, along_x, along_y, along_z, first_children, next_cell}
use Rattle.grid_fluxes.specs.Bounds.{GivesWithin, IsWithinFiner}
use Rattle.grid_fluxes.specs.Fluxes.{Across, Fluxes, advanced_by, flux_after, flux_before, over_axes, taken_along}
use Rattle.grid_fluxes.specs.Replacing.{ReplacesAbove, ReplacesBelow}
use Rattle.grid_fluxes.proofs.Replacing.{above-giving, above-taking, below-giving, below-taking, held-advanced_by}
use Rattle.advect.specs.FaceFluxes.{axis_of, flows_out, is_end}
use Rattle.advect.specs.Flows.{axis_number, goes_up_by}
use Rattle.advect.specs.FluxPieces.{FluxPieceState, StaysWithin, corrected, is_behind, replaced_flux, replacing_sum}
use Rattle.flux_register.specs.Faces.{FluxFace, IsFluxFace, side_number}
use Rattle.flux_register.specs.Cells.{FluxPart, FluxProblem, state_in}
use Rattle.flux_register.specs.Made.{IsMadeBy}
use Rattle.flux_register.specs.Problem.{IsFluxPart, IsFluxProblem}
use Rattle.flux_register.specs.States.{replaces}
use Rattle.flux_register.proofs.Geometry.{fine}
use Rattle.flux_register.proofs.Messages.{part_place, part_inside, right_piece}
use Rattle.flux_register.proofs.PieceSums.{Behind, behind-is, sum-end, sum-low, flux-end, flux-low}
use Rattle.flux_register.proofs.SixSides.{axis_is, end_is, is_side-side_of, number-side_of, side_of}

-- the number of the side at an end of an axis
abbrev pub sided : Axis → Bool → ℕ
sided a end = 2 * axis_number a + cond end 1 0

pub one_sided : (a b : Axis) (end other : Bool) → sided b other ≡ sided a end → (b ≡ a) × (other ≡ end)
one_sided a b end other same =
    let number : (x : Axis) (e : Bool) → side_number (side_of x e) ≡ sided x e = λ x e. ap (λ (y : Axis). 2 * axis_number y + cond (is_end (side_of x e)) 1 0) (axis_is x e) ∙ ap (λ (t : Bool). sided x t) (end_is x e) in
    let is = number-side_of a end (side_of b other) (is_side-side_of b other) (number b other ∙ (same ∙ sym (number a end))) in
    (sym (axis_is b other) ∙ is.0, sym (end_is b other) ∙ is.1)

first_child : (a : Axis) (v : Cube) → child_of v 0 ≡ fine a v 0 0 0
first_child along_x v = refl
first_child along_y v = refl
first_child along_z v = refl

a_part : (g : Axis → ℕ) (a : Axis) → g a ≤ over_axes g
a_part g along_x = omega arith
a_part g along_y = omega arith
a_part g along_z = omega arith

gives : (a b flux sum : ℕ) → b + sum ≡ a + flux → (a + flux - sum ≡ b) × (sum ≤ a + flux)
gives a b flux sum e = (omega arith, omega arith)

takes : (a b flux sum : ℕ) → b + flux ≡ a + sum → flux ≤ a → a - flux + sum ≡ b
takes a b flux sum e h = omega arith

-- ---- a right piece at a cell of its receiver

module _ (p : FluxProblem) (valid : IsFluxProblem p) (i : ℕ) (k : FluxPart) (here : slice_get p.parts i ≡ Some k)
    (face : FluxFace) (is : IsFluxFace p.setting.grid (state_in p).leaves face) (sender : FluxPart) (sends : slice_get p.parts face.from ≡ Some sender) (receives : face.to ≡ i) where
  abbrev s : State
  s = state_in p

  abbrev n : ℕ
  n = p.setting.edge

  abbrev q : FluxPieceState
  q = right_piece p sender face

  abbrev a : Axis
  a = axis_of face.side

  receiver_is : k.before.place ≡ is.receiver
  receiver_is = same_Some k.before.place is.receiver (sym (part_place p i k here) ∙ (ap (slice_get s.leaves) (sym receives) ∙ is.receives))

  sender_is : sender.before.place ≡ face.place
  sender_is = same_Some sender.before.place face.place (sym (part_place p face.from sender sends) ∙ is.sends)

  inside_receiver : IsInside s.grid is.receiver
  inside_receiver = subst (IsInside s.grid) receiver_is (part_inside p valid i k here)

  inside_sender : IsInside s.grid face.place
  inside_sender = subst (IsInside s.grid) sender_is (part_inside p valid face.from sender sends)

  module _ (fluxes : Fluxes) (made : IsMadeBy p fluxes) (f : ℕ) (known : f < p.setting.fields) (v : Cube) (own : block_of n v ≡ k.before.place) (behind : Behind a (is_end face.side) n face.place v) where
    sl : IsFluxPart p face.from sender
    sl = valid.leaves face.from sender sends

    kl : IsFluxPart p i k
    kl = valid.leaves i k here

    own_receiver : block_of n v ≡ is.receiver
    own_receiver = own ∙ receiver_is

    abbrev sum : ℕ
    sum = replacing_sum q f (v.x % n) (v.y % n) (v.z % n)

    abbrev flux : ℕ
    flux = replaced_flux k.faces q f (v.x % n) (v.y % n) (v.z % n)

    sum-is-end : is_end face.side ≡ true → sum ≡ sum_by (fluxes.level_flux f a) (first_children a (next_cell a s.grid n v))
    sum-is-end = sum-end s fluxes p.setting refl refl valid.even valid.least face is sender sender_is sl.same_edge (made.each face.from sender sends) sl.faces_edge sl.faces_fields inside_receiver inside_sender f known v own_receiver behind

    sum-is-low : is_end face.side ≡ false → sum ≡ sum_by (fluxes.level_flux f a) (first_children a v)
    sum-is-low = sum-low s fluxes p.setting refl refl valid.even valid.least face is sender sender_is sl.same_edge (made.each face.from sender sends) sl.faces_edge sl.faces_fields inside_receiver inside_sender f known v own_receiver behind

    flux-is-end : is_end face.side ≡ true → flux ≡ fluxes.level_flux f a (next_cell a s.grid n v)
    flux-is-end = flux-end s fluxes p.setting refl refl valid.even valid.least face is sender sender_is sl.same_edge (made.each face.from sender sends) sl.faces_edge sl.faces_fields inside_receiver inside_sender f known v own_receiver behind k receiver_is kl.same_edge (made.each i k here)

    flux-is-low : is_end face.side ≡ false → flux ≡ fluxes.level_flux f a v
    flux-is-low = flux-low s fluxes p.setting refl refl valid.even valid.least face is sender sender_is sl.same_edge (made.each face.from sender sends) sl.faces_edge sl.faces_fields inside_receiver inside_sender f known v own_receiver behind k receiver_is kl.same_edge (made.each i k here)

    leaf : IsLeaf s.leaves (block_of n v)
    leaf = (i, part_place p i k here ∙ ap Some (sym own))

    module _ (one other : Across) (within_one : IsWithinFiner s one) (within_other : IsWithinFiner s other)
        (above : is_end face.side ≡ true → ReplacesAbove one other a v) (below : is_end face.side ≡ false → ReplacesBelow one other a v)
        (amount : ℕ) (was : amount ≡ held (advanced_by s one fluxes) f v) where
      gives_one : GivesWithin s one fluxes f
      gives_one = made.replaces.gives one f known within_one

      gives_other : GivesWithin s other fluxes f
      gives_other = made.replaces.gives other f known within_other

      abbrev next : ℕ
      next = held (advanced_by s other fluxes) f v

      out-is : (end up : Bool) → is_end face.side ≡ end → fluxes.goes_up a ≡ up → flows_out k.faces face.side ≡ cond end up (cond up false true)
      out-is end up at goes =
          ap (λ (t : Bool). cond t (goes_up_by k.faces.velocity a) (cond (goes_up_by k.faces.velocity a) false true)) at
          ∙ ap (λ (t : Bool). cond end t (cond t false true)) ((made.each i k here).goes_up a ∙ goes)

      -- what a cell takes by its own flux it holds
      held_taken : taken_along s one fluxes f v a ≤ amount
      held_taken =
          let part = a_part (taken_along s one fluxes f v) a in
          let whole = held-advanced_by s one fluxes f v valid.state known leaf in
          omega (arith, part, whole, was)

      abbrev Result : Type 0
      Result = (corrected k.faces q f (v.x % n) (v.y % n) (v.z % n) amount ≡ next) × (cond (flows_out k.faces face.side) sum flux ≤ cond (flows_out k.faces face.side) (amount + flux) amount)

      gave : flows_out k.faces face.side ≡ true → next + sum ≡ held (advanced_by s one fluxes) f v + flux → Result
      gave out e =
          let r = gives amount next flux sum (omega (arith, e, was)) in (
            ap (λ (t : Bool). cond t (amount + flux - sum) (amount - flux + sum)) out ∙ r.0,
            subst (λ (t : Bool). cond t sum flux ≤ cond t (amount + flux) amount) (sym out) r.1,
          )

      took : flows_out k.faces face.side ≡ false → next + flux ≡ held (advanced_by s one fluxes) f v + sum → flux ≤ amount → Result
      took out e h = (
        ap (λ (t : Bool). cond t (amount + flux - sum) (amount - flux + sum)) out ∙ takes amount next flux sum (omega (arith, e, was)) h,
        subst (λ (t : Bool). cond t sum flux ≤ cond t (amount + flux) amount) (sym out) h,
      )

      by-end : (end up : Bool) → is_end face.side ≡ end → fluxes.goes_up a ≡ up → Result
      by-end true true at goes =
          let e = above-giving s one other fluxes f v valid.state known leaf gives_one gives_other a (above at) goes in
          gave (out-is true true at goes) (omega (arith, e, sum-is-end at, flux-is-end at))
      by-end true false at goes =
          let r = above at in
          let e = above-taking s one other fluxes f v valid.state known leaf gives_one gives_other a r goes in
          let v' = next_cell a s.grid n v in
          let own_flux : taken_along s one fluxes f v a ≡ fluxes.level_flux f a v' =
          ap (λ (t : Bool). cond t (flux_before one (fluxes.level_flux f) a v) (flux_after s one (fluxes.level_flux f) a v)) goes
          ∙ ap (λ (t : Bool). cond t (sum_by (fluxes.level_flux f a) (first_children a v')) (fluxes.level_flux f a v')) r.own in
          took (out-is true false at goes) (omega (arith, e, sum-is-end at, flux-is-end at)) (omega (arith, held_taken, own_flux, flux-is-end at))
      by-end false true at goes =
          let r = below at in
          let e = below-taking s one other fluxes f v valid.state known leaf gives_one gives_other a r goes in
          let own_flux : taken_along s one fluxes f v a ≡ fluxes.level_flux f a v =
          ap (λ (t : Bool). cond t (flux_before one (fluxes.level_flux f) a v) (flux_after s one (fluxes.level_flux f) a v)) goes
          ∙ ap (λ (t : Bool). cond t (sum_by (fluxes.level_flux f a) (first_children a v)) (fluxes.level_flux f a v)) r.own in
          took (out-is false true at goes) (omega (arith, e, sum-is-low at, flux-is-low at)) (omega (arith, held_taken, own_flux, flux-is-low at))
      by-end false false at goes =
          let e = below-giving s one other fluxes f v valid.state known leaf gives_one gives_other a (below at) goes in
          gave (out-is false false at goes) (omega (arith, e, sum-is-low at, flux-is-low at))

      pub corrected-value : corrected k.faces q f (v.x % n) (v.y % n) (v.z % n) amount ≡ next
      corrected-value = (by-end (is_end face.side) (fluxes.goes_up a) refl refl).0

      pub stays-within : StaysWithin k.faces q f (v.x % n) (v.y % n) (v.z % n) amount
      stays-within = record {
        enough = (by-end (is_end face.side) (fluxes.goes_up a) refl refl).1;
        most = (let small = made.replaces.small other f v known within_other leaf in omega (arith, small, corrected-value));
      }

  -- a piece replaces a face of the cell only where finer leaves lie across
  module _ (b : Axis) (end : Bool) (v : Cube) (own : block_of n v ≡ k.before.place) (replaced : replaces n (sided b end) v q ≡ true) where
    pub its_side : (a ≡ b) × (is_end face.side ≡ end)
    its_side = one_sided b a end (is_end face.side) (eqb-true (side_number face.side) (sided b end) (and_parts (side_number face.side == sided b end) (is_behind q (v.x % n) (v.y % n) (v.z % n)) replaced).0)

    pub its_cell : Behind a (is_end face.side) n face.place v
    its_cell = behind-is q v (and_parts (side_number face.side == sided b end) (is_behind q (v.x % n) (v.y % n) (v.z % n)) replaced).1

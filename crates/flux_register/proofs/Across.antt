-- Which faces carry sums after one more piece, and that only faces with finer leaves across do.
use Rattle.std.proofs.Common.{◌≡◌, ℕ, ◌-◌, ◌*◌, ◌/◌, ◌%◌, ◌≤◌, ◌==◌, ◌&&◌, ◌||◌, Bool, true, false, cond, List, ◌∷◌, Some, refl, sym, ap, ◌∙◌, subst, arith}
use Rattle.std.specs.Prelude.{Contains, slice_get}
use Rattle.std.specs.List.{list_any}
use Rattle.std.proofs.lemmas.Bool.{and_parts, and_from, eq-eqb, ne_eqb, false≢true}
use Rattle.std.proofs.lemmas.Option.{same_Some}
use Rattle.phase_core.specs.Lemmas.Lookups.{Contains-at}
use Rattle.block_index.specs.Places.{Cube, IsInside, child_of}
use Rattle.block_fields.specs.Cells.{block_of, is_same}
use Rattle.block_fields.specs.States.{State}
use Rattle.block_fields.proofs.CellFacts.{is_same-true, leaf-has_cell, same-is_same}
use Rattle.block_fields.proofs.Sums.{any-found}
use Rattle.grid_fluxes.specs.Axes.{Axis, along_x, along_y, along_z, next_cell, previous_cell}
use Rattle.grid_fluxes.specs.Bounds.{IsWithinFiner}
use Rattle.grid_fluxes.specs.Fluxes.{has_finer}
use Rattle.grid_fluxes.specs.Replacing.{ReplacesAbove, ReplacesBelow, ReplacesNone}
use Rattle.advect.specs.FaceFluxes.{axis_of, is_end}
use Rattle.advect.specs.FluxPieces.{FluxPieceState, is_behind}
use Rattle.flux_register.specs.Faces.{FluxFace, IsFluxFace, side_number}
use Rattle.flux_register.specs.Cells.{FluxPart, FluxProblem, state_in}
use Rattle.flux_register.specs.Problem.{IsFluxProblem}
use Rattle.flux_register.specs.States.{CarriesSums, high_side, low_side, replaces, used_across}
use Rattle.flux_register.proofs.Geometry.{fine, fine-end, fine-low}
use Rattle.flux_register.proofs.Messages.{part_place, part_inside, right_piece}
use Rattle.flux_register.proofs.PieceSums.{Behind}
use Rattle.flux_register.proofs.Replaced.{its_cell, its_side, one_sided, sided}

pub first_child : (a : Axis) (v : Cube) → child_of v 0 ≡ fine a v 0 0 0
first_child along_x v = refl
first_child along_y v = refl
first_child along_z v = refl

-- ---- one more piece

module _ (n : ℕ) (place v : Cube) (own : block_of n v ≡ place) (q : FluxPieceState) (used : List FluxPieceState) where
  abbrev a : Axis
  a = axis_of q.side

  abbrev behind : Bool
  behind = is_behind q (v.x % n) (v.y % n) (v.z % n)

  abbrev carried : ℕ → List FluxPieceState → Bool
  carried side us = is_same place (block_of n v) && list_any (replaces n side v) us

  pub carried-is : (side : ℕ) (us : List FluxPieceState) → carried side us ≡ list_any (replaces n side v) us
  carried-is side us = ap (λ (t : Bool). t && list_any (replaces n side v) us) (same-is_same place (block_of n v) (sym own))

  other_side : (side : ℕ) → (side_number q.side ≡ side → ⊥) → carried side (q ∷ used) ≡ carried side used
  other_side side not =
      carried-is side (q ∷ used)
      ∙ (ap (λ (t : Bool). (t && behind) || list_any (replaces n side v) used) (ne_eqb (side_number q.side) side not) ∙ sym (carried-is side used))

  not_behind : (side : ℕ) → behind ≡ false → carried side (q ∷ used) ≡ carried side used
  not_behind side not =
      carried-is side (q ∷ used)
      ∙ (ap (λ (t : Bool). ((side_number q.side == side) && t) || list_any (replaces n side v) used) not
      ∙ (none (side_number q.side == side) ∙ sym (carried-is side used)))
    where
      none : (b : Bool) → ((b && false) || list_any (replaces n side v) used) ≡ list_any (replaces n side v) used
      none true = refl
      none false = refl

  pub replaces-own : behind ≡ true → replaces n (sided a (is_end q.side)) v q ≡ true
  replaces-own is = and_from (side_number q.side == sided a (is_end q.side)) behind (eq-eqb (side_number q.side) (sided a (is_end q.side)) refl) is

  this_side : behind ≡ true → carried (sided a (is_end q.side)) (q ∷ used) ≡ true
  this_side is =
      carried-is (sided a (is_end q.side)) (q ∷ used) ∙ ap (λ (t : Bool). t || list_any (replaces n (sided a (is_end q.side)) v) used) (replaces-own is)

  pub step-none : behind ≡ false → ReplacesNone (used_across n place used) (used_across n place (q ∷ used)) v
  step-none not = record { below = λ b. not_behind (low_side b) not; above = λ b. not_behind (high_side b) not }

  module _ (is : behind ≡ true) (fresh : list_any (replaces n (sided a (is_end q.side)) v) used ≡ false) where
    not_yet : carried (sided a (is_end q.side)) used ≡ false
    not_yet = carried-is (sided a (is_end q.side)) used ∙ fresh

    differs : (b : Axis) (end : Bool) → ((b ≡ a) × (end ≡ is_end q.side) → ⊥) → side_number q.side ≡ sided b end → ⊥
    differs b end apart same = let o = one_sided a b (is_end q.side) end (sym same) in apart (o.0, o.1)

    pub step-above : is_end q.side ≡ true → ReplacesAbove (used_across n place used) (used_across n place (q ∷ used)) a v
    step-above at = record {
      own = subst (λ (t : Bool). carried (sided a t) used ≡ false) at not_yet;
      sum = subst (λ (t : Bool). carried (sided a t) (q ∷ used) ≡ true) at (this_side is);
      other_axes = λ b n'. other_side (high_side b) (differs b true (λ e. n' e.0));
      below = λ b. other_side (low_side b) (differs b false (λ e. false≢true (e.1 ∙ at)));
    }

    pub step-below : is_end q.side ≡ false → ReplacesBelow (used_across n place used) (used_across n place (q ∷ used)) a v
    step-below at = record {
      own = subst (λ (t : Bool). carried (sided a t) used ≡ false) at not_yet;
      sum = subst (λ (t : Bool). carried (sided a t) (q ∷ used) ≡ true) at (this_side is);
      other_axes = λ b n'. other_side (low_side b) (differs b false (λ e. n' e.0));
      above = λ b. other_side (high_side b) (differs b true (λ e. false≢true (sym at ∙ sym e.1)));
    }

-- ---- only where finer leaves lie across

module _ (p : FluxProblem) (valid : IsFluxProblem p) (i : ℕ) (k : FluxPart) (here : slice_get p.parts i ≡ Some k) where
  abbrev s : State
  s = state_in p

  abbrev n : ℕ
  n = p.setting.edge

  halves : n ≡ 2 * (n / 2)
  halves = let e = valid.even in omega arith

  some_half : 1 ≤ n / 2
  some_half = omega (arith, valid.least, halves)

  module _ (q : FluxPieceState) (carries : CarriesSums p i q) (b : Axis) (v : Cube) (own : block_of n v ≡ k.before.place) where
    abbrev face : FluxFace
    face = carries.face

    abbrev is : IsFluxFace p.setting.grid (state_in p).leaves carries.face
    is = carries.is_face

    receiver_is : k.before.place ≡ carries.is_face.receiver
    receiver_is = same_Some k.before.place carries.is_face.receiver (sym (part_place p i k here) ∙ (ap (slice_get s.leaves) (sym carries.receives) ∙ carries.is_face.receives))

    inside_receiver : IsInside s.grid carries.is_face.receiver
    inside_receiver = subst (IsInside s.grid) receiver_is (part_inside p valid i k here)

    inside_sender : IsInside s.grid carries.face.place
    inside_sender = valid.state.mesh.inside carries.face.from carries.face.place carries.is_face.sends

    module _ (end : Bool) (replaced : replaces n (sided b end) v q ≡ true) where
      of_right : replaces n (sided b end) v (right_piece p carries.sender carries.face) ≡ true
      of_right = subst (λ (x : FluxPieceState). replaces n (sided b end) v x ≡ true) carries.sums replaced

      side : (axis_of carries.face.side ≡ b) × (is_end carries.face.side ≡ end)
      side = its_side p valid i k here carries.face carries.is_face carries.sender carries.sends carries.receives b end v own of_right

      cell : Behind (axis_of carries.face.side) (is_end carries.face.side) n carries.face.place v
      cell = its_cell p valid i k here carries.face carries.is_face carries.sender carries.sends carries.receives b end v own of_right

      finer_leaf : (w : Cube) → block_of n (fine b w 0 0 0) ≡ carries.face.place → has_finer n s.leaves w ≡ true
      finer_leaf w at = leaf-has_cell n s.leaves (child_of w 0) (carries.face.from, carries.is_face.sends ∙ ap Some (sym (ap (block_of n) (first_child b w) ∙ at)))

    finer-end : replaces n (sided b true) v q ≡ true → has_finer n s.leaves (next_cell b s.grid n v) ≡ true
    finer-end replaced =
        let at = (side true replaced).1 in
        let c = cell true replaced in
        let a = axis_of carries.face.side in
        let lies = fine-end s.grid n (n / 2) halves some_half carries.is_face.receiver carries.face.place v (own ∙ receiver_is) carries.is_face.finer 0 0 (omega arith) (omega arith) a
        (carries.is_face.beside ∙ ap (λ (t : Bool). cond t (next_cell a s.grid 1 carries.is_face.receiver) (previous_cell a s.grid 1 carries.is_face.receiver)) at)
        (carries.is_face.near ∙ ap (λ (t : Bool). cond t 0 1) at)
        (c.along ∙ ap (λ (t : Bool). cond t (n - 1) 0) at)
        c.first c.second in
        finer_leaf true replaced (next_cell b s.grid n v) (subst (λ (t : Axis). block_of n (fine t (next_cell t s.grid n v) 0 0 0) ≡ carries.face.place) (side true replaced).0 lies.place)

    finer-low : replaces n (sided b false) v q ≡ true → has_finer n s.leaves (previous_cell b s.grid n v) ≡ true
    finer-low replaced =
        let at = (side false replaced).1 in
        let c = cell false replaced in
        let a = axis_of carries.face.side in
        let lies = fine-low s.grid n (n / 2) halves some_half carries.is_face.receiver carries.face.place v (own ∙ receiver_is) carries.is_face.finer 0 0 (omega arith) (omega arith) a inside_receiver inside_sender
        (carries.is_face.beside ∙ ap (λ (t : Bool). cond t (next_cell a s.grid 1 carries.is_face.receiver) (previous_cell a s.grid 1 carries.is_face.receiver)) at)
        (carries.is_face.near ∙ ap (λ (t : Bool). cond t 0 1) at)
        (c.along ∙ ap (λ (t : Bool). cond t (n - 1) 0) at)
        c.first c.second in
        finer_leaf false replaced (previous_cell b s.grid n v) (subst (λ (t : Axis). block_of n (fine t (previous_cell t s.grid n v) 0 0 0) ≡ carries.face.place) (side false replaced).0 lies.1)

  pub used-within : (used : List FluxPieceState) → ((q : FluxPieceState) → Contains used q → CarriesSums p i q) → IsWithinFiner s (used_across n k.before.place used)
  used-within used rights = record {
    below = λ b v h.
        let both = and_parts (is_same k.before.place (block_of n v)) (list_any (replaces n (low_side b) v) used) h in
        let found = any-found (replaces n (low_side b) v) used both.1 in
        finer-low found.1 (rights found.1 (Contains-at used found.0 found.1 found.2)) b v (sym (is_same-true k.before.place (block_of n v) both.0)) found.3;
    above = λ b v h.
        let both = and_parts (is_same k.before.place (block_of n v)) (list_any (replaces n (high_side b) v) used) h in
        let found = any-found (replaces n (high_side b) v) used both.1 in
        finer-end found.1 (rights found.1 (Contains-at used found.0 found.1 found.2)) b v (sym (is_same-true k.before.place (block_of n v) both.0)) found.3;
  }

-- What stands when nothing is in flight: each face with finer leaves across carries their sum, so the cells hold the
-- state after an advance of the composite grid.
use Rattle.std.proofs.Common.{◌≡◌, ℕ, ◌+◌, ◌-◌, ◌*◌, ◌/◌, ◌%◌, ◌<◌, ◌≤◌, ◌==◌, ◌&&◌, Bool, true, false, cond, List, [], Some, map, refl, sym, ap, ◌∙◌, subst, arith, inl, inr}
use Rattle.std.specs.Prelude.{Contains, slice_get, slice_index}
use Rattle.std.specs.List.{list_any, range_with_len}
use Rattle.std.proofs.lemmas.Bool.{and_from, cases_eq, eq-eqb}
use Rattle.std.proofs.lemmas.List.{length-map}
use Rattle.std.proofs.lemmas.Option.{same_Some}
use Rattle.phase_core.specs.declared.envelope.Envelope.{Envelope}
use Rattle.phase_core.specs.Lemmas.Lookups.{Contains-get, get-map_back}
use Rattle.phase_core.specs.Lemmas.ListsByPlaces.{same_list}
use Rattle.owed_phase.specs.Plans.{all_of}
use Rattle.owed_phase.specs.Rest.{HasHandled, IsDone}
use Rattle.owed_phase.specs.Lemmas.Inboxes.{inbox-has}
use Rattle.owed_phase.specs.Lemmas.OwingLaws.{at_rest_by}
use Rattle.block_index.specs.Places.{Cube, IsInside, child_of}
use Rattle.leaf_set.specs.Meshes.{IsLeaf}
use Rattle.block_fields.specs.Blocks.{BlockState, amounts_of}
use Rattle.block_fields.specs.Cells.{block_of, cell_at, cell_number, cells_of, is_same}
use Rattle.block_fields.specs.States.{State, held}
use Rattle.block_fields.proofs.CellFacts.{Contains-block_of-child_of, block_of-cell_at, cell_number-cell_at, has_cell-leaf, same-is_same}
use Rattle.block_fields.proofs.Standings.{never_below}
use Rattle.block_fields.proofs.StatesOfBlocks.{filled-state_by, lists-filled}
use Rattle.block_fields.proofs.Sums.{any-at}
use Rattle.grid_fluxes.specs.Axes.{Axis, coordinate, next_cell, previous_cell}
use Rattle.grid_fluxes.specs.Fluxes.{Fluxes, finer_across, given, has_finer, taken}
use Rattle.grid_fluxes.specs.Replacing.{ReplacesNone}
use Rattle.grid_fluxes.proofs.Steps.{next_cell-level, previous_cell-level}
use Rattle.grid_fluxes.proofs.Replacing.{held-advanced_by, held-not_replaced}
use Rattle.advect.specs.FaceFluxes.{axis_of, is_end}
use Rattle.advect.specs.Flows.{axis_number}
use Rattle.advect.specs.FluxPieces.{FluxPieceState, is_behind}
use Rattle.flux_register.specs.declared.flux_msg.FluxMsg.{FluxMsg}
use Rattle.flux_register.specs.declared.flux_msg.FluxMsg.TheVariants.{Piece}
use Rattle.flux_register.specs.Faces.{FluxFace, IsFluxFace, side_number}
use Rattle.flux_register.specs.Cells.{FluxPart, FluxState, FluxProblem, blank, state_in}
use Rattle.flux_register.specs.React.{sent_pieces}
use Rattle.flux_register.specs.Made.{IsMadeBy}
use Rattle.flux_register.specs.Problem.{IsFluxProblem, FluxFixHolds, flux_plan}
use Rattle.flux_register.specs.States.{AreAdvanced, high_side, low_side, pieces_in, replaces, used_across}
use Rattle.flux_register.specs.Lemmas.FluxLaws.{is_plan}
use Rattle.flux_register.proofs.Across.{first_child, used-within}
use Rattle.flux_register.proofs.Finer.{LiesAcross, across-end, across-low, level-fine, stays-next, stays-previous}
use Rattle.flux_register.proofs.Geometry.{fine}
use Rattle.flux_register.proofs.Goings.{Goes, handled_goes}
use Rattle.flux_register.proofs.Messages.{face_sent, part_inside, part_place, right_piece, sent_among}
use Rattle.flux_register.proofs.Once.{contain-pieces}
use Rattle.flux_register.proofs.PieceSums.{Behind, is-behind}
use Rattle.flux_register.proofs.Replaced.{sided}
use Rattle.flux_register.proofs.SixSides.{axis_is, end_is, is_side-side_of, side_of}

same_truth : (x y : Bool) → (x ≡ true → y ≡ true) → (y ≡ true → x ≡ true) → x ≡ y
same_truth true y f g = sym (f refl)
same_truth false true f g = g refl
same_truth false false f g = refl

module _ (p : FluxProblem) (valid : IsFluxProblem p) (i : ℕ) (c : FluxState) (rests : IsDone (flux_plan p) p.parts i c) where
  abbrev s : State
  s = state_in p

  abbrev n : ℕ
  n = p.setting.edge

  abbrev k : FluxPart
  k = rests.handled.part

  abbrev used : List FluxPieceState
  used = pieces_in rests.done

  pub goes : Goes p i k c rests.done
  goes = handled_goes p valid i c rests.done rests.handled

  halves : n ≡ 2 * (n / 2)
  halves = let e = valid.even in omega arith

  some_half : 1 ≤ n / 2
  some_half = omega (arith, valid.least, halves)

  inside : IsInside s.grid k.before.place
  inside = part_inside p valid i k rests.handled.here

  leaf_here : slice_get s.leaves i ≡ Some k.before.place
  leaf_here = part_place p i k rests.handled.here

  -- the piece of a face of this block was used
  module _ (a : Axis) (end : Bool) (v : Cube) (own : block_of n v ≡ k.before.place) (from : ℕ) (place : Cube) (sends : slice_get s.leaves from ≡ Some place) (level : place.level ≡ k.before.place.level + 1)
      (lies : LiesAcross a end s.grid n k.before.place v place) (at : coordinate a v % n ≡ cond end (n - 1) 0) where
    abbrev face : FluxFace
    face = record { to = i; from = from; place = place; side = side_of a end }

    is_face : IsFluxFace s.grid s.leaves face
    is_face = record {
      side = is_side-side_of a end;
      sends = sends;
      receiver = k.before.place;
      receives = leaf_here;
      finer = level;
      beside = lies.parent ∙ sym (ap (λ (t : Bool). cond t (next_cell (axis_of (side_of a end)) s.grid 1 k.before.place) (previous_cell (axis_of (side_of a end)) s.grid 1 k.before.place)) (end_is a end)
          ∙ ap (λ (b : Axis). cond end (next_cell b s.grid 1 k.before.place) (previous_cell b s.grid 1 k.before.place)) (axis_is a end));
      near = ap (λ (b : Axis). coordinate b place % 2) (axis_is a end) ∙ (lies.near ∙ ap (λ (t : Bool). cond {A = ℕ} t 0 1) (sym (end_is a end)));
    }

    sent : (x : FluxPart) × (slice_get p.parts from ≡ Some x) × Contains x.owes face
    sent = face_sent p valid face is_face

    abbrev q : FluxPieceState
    q = right_piece p sent.0 face

    was_used : Contains used q
    was_used =
        let e : Envelope FluxMsg = record { to = i; msg = Piece q } in
        contain-pieces rests.done q (rests.every.one_of (Piece q) (inbox-has e (all_of (flux_plan p) p.parts) (sent_among p valid from sent.0 face sent.1 sent.2)))

    behind : Behind (axis_of q.side) (is_end q.side) n place v
    behind = subst (λ (b : Axis). Behind b (is_end q.side) n place v) (sym (axis_is a end)) (subst (λ (t : Bool). Behind a t n place v) (sym (end_is a end)) (record { along = at; first = lies.first; second = lies.second }))

    number : side_number q.side ≡ sided a end
    number = ap (λ (b : Axis). 2 * axis_number b + cond (is_end (side_of a end)) 1 0) (axis_is a end) ∙ ap (λ (t : Bool). sided a t) (end_is a end)

    pub carries-sum : list_any (replaces n (sided a end) v) used ≡ true
    carries-sum =
        let there = Contains-get used q was_used in
        any-at (replaces n (sided a end) v) used there.0 q there.1 (and_from (side_number q.side == sided a end) (is_behind q (v.x % n) (v.y % n) (v.z % n)) (eq-eqb (side_number q.side) (sided a end) number) (is-behind q v behind))

  module _ (a : Axis) (v : Cube) (own : block_of n v ≡ k.before.place) where
    level_v : v.level ≡ k.before.place.level
    level_v = ap (λ (x : Cube). x.level) own

    finer-leaf : (w : Cube) → has_finer n s.leaves w ≡ true → IsLeaf s.leaves (block_of n (fine a w 0 0 0))
    finer-leaf w h = subst (λ (x : Cube). IsLeaf s.leaves (block_of n x)) (first_child a w) (has_cell-leaf n s.leaves (child_of w 0) h)

    -- no finer leaf lies in a cell of the block itself
    not_own : (w : Cube) → has_finer n s.leaves w ≡ true → block_of n w ≡ k.before.place → ⊥
    not_own w h same =
        never_below s.grid s.leaves valid.state.domain valid.state.mesh n 1 (block_of n w) (block_of n (child_of w 0)) (omega arith) (i, leaf_here ∙ ap Some (sym same)) (has_cell-leaf n s.leaves (child_of w 0) h) (Contains-block_of-child_of n w 0 (omega arith))

    fine-level : (w : Cube) → w.level ≡ v.level → (block_of n (fine a w 0 0 0)).level ≡ k.before.place.level + 1
    fine-level w e = level-fine a n w ∙ ap (λ (l : ℕ). l + 1) (e ∙ level_v)

    end-carries : has_finer n s.leaves (next_cell a s.grid n v) ≡ true → list_any (replaces n (sided a true) v) used ≡ true
    end-carries h =
        let w = next_cell a s.grid n v in
        let l = finer-leaf w h in
        elim (cases_eq (coordinate a v % n) (n - 1)) [
          | inl last ↦ carries-sum a true v own l.0 (block_of n (fine a w 0 0 0)) l.1 (fine-level w (next_cell-level a s.grid n v)) (across-end s.grid n halves some_half k.before.place v own a last) last
          | inr inner ↦ absurd (not_own w h (stays-next s.grid n halves some_half k.before.place v own a inside inner))
        ]

    low-carries : has_finer n s.leaves (previous_cell a s.grid n v) ≡ true → list_any (replaces n (sided a false) v) used ≡ true
    low-carries h =
        let w = previous_cell a s.grid n v in
        let l = finer-leaf w h in
        elim (cases_eq (coordinate a v % n) 0) [
          | inl first ↦ carries-sum a false v own l.0 (block_of n (fine a w 0 0 0)) l.1 (fine-level w (previous_cell-level a s.grid n v)) (across-low s.grid n halves some_half k.before.place v own a inside (valid.state.mesh.inside l.0 (block_of n (fine a w 0 0 0)) l.1) first) first
          | inr inner ↦ absurd (not_own w h (stays-previous s.grid n halves some_half k.before.place v own a inner))
        ]

  carried : (v : Cube) → block_of n v ≡ k.before.place → (side : ℕ) → (is_same k.before.place (block_of n v) && list_any (replaces n side v) used) ≡ list_any (replaces n side v) used
  carried v own side = ap (λ (t : Bool). t && list_any (replaces n side v) used) (same-is_same k.before.place (block_of n v) (sym own))

  -- so the used pieces are those of all faces with finer leaves across
  pub all_used : (v : Cube) → block_of n v ≡ k.before.place → ReplacesNone (used_across n k.before.place used) (finer_across s) v
  all_used v own =
      let within = used-within p valid i k rests.handled.here used goes.right in
      record {
        below = λ a. same_truth (has_finer n s.leaves (previous_cell a s.grid n v)) ((used_across n k.before.place used).below a v) (λ h. carried v own (low_side a) ∙ low-carries a v own h) (within.below a v);
        above = λ a. same_truth (has_finer n s.leaves (next_cell a s.grid n v)) ((used_across n k.before.place used).above a v) (λ h. carried v own (high_side a) ∙ end-carries a v own h) (within.above a v);
      }

  pub done-amount : (fluxes : Fluxes) (f : ℕ) (v : Cube) → IsMadeBy p fluxes → f < p.setting.fields → block_of n v ≡ k.before.place →
      slice_index (amounts_of c.block f) (cell_number n v) ≡ held s f v - given s (finer_across s) fluxes f v + taken s (finer_across s) fluxes f v
  done-amount fluxes f v made known own =
      let leaf : IsLeaf s.leaves (block_of n v) = (i, leaf_here ∙ ap Some (sym own)) in
      goes.amounts fluxes f v made known own
      ∙ (sym (held-not_replaced s (used_across n k.before.place used) (finer_across s) fluxes f v valid.state known leaf (all_used v own))
      ∙ held-advanced_by s (finer_across s) fluxes f v valid.state known leaf)

-- a cell that has started owes nothing
settled : (p : FluxProblem) → IsFluxProblem p → (i : ℕ) (c : FluxState) (done : List FluxMsg) → HasHandled (flux_plan p) p.parts i c done → c.started ≡ true → sent_pieces c.faces c.owed ≡ []
settled p valid i c done handled started =
    let stands = handled_goes p valid i c done handled in
    ap (sent_pieces c.faces) (stands.owed ∙ ap (λ (b : Bool). cond b [] (map (blank p.setting) handled.part.owes)) started)

module _ (p : FluxProblem) (cells : List FluxState) (holds : FluxFixHolds p cells []) where
  abbrev blocks : List BlockState
  blocks = map (λ (c : FluxState). c.block) cells

  pub rest_at : (i : ℕ) (c : FluxState) → slice_get cells i ≡ Some c → IsDone (flux_plan p) p.parts i c
  rest_at = at_rest_by (IsFluxProblem p) (flux_plan p) p.parts (λ v. is_plan p) (settled p holds.problem) cells holds

  pub rest_goes : (i : ℕ) (c : FluxState) (here : slice_get cells i ≡ Some c) → Goes p i (rest_at i c here).handled.part c (rest_at i c here).done
  rest_goes i c here = goes p holds.problem i c (rest_at i c here)

  pub rest_places : map (λ (b : BlockState). b.place) blocks ≡ (state_in p).leaves
  rest_places = same_list (map (λ (b : BlockState). b.place) blocks) (state_in p).leaves
      (length-map blocks (λ (b : BlockState). b.place) ∙ (length-map cells (λ (c : FluxState). c.block) ∙ (holds.owing.many ∙ (sym (length-map p.parts (λ (x : FluxPart). x.before)) ∙ sym (length-map (map (λ (x : FluxPart). x.before) p.parts) (λ (b : BlockState). b.place))))))
      (λ i x y here there.
      let b = get-map_back (λ (b : BlockState). b.place) blocks i x here in
      let c = get-map_back (λ (c : FluxState). c.block) cells i b.0 b.1 in
      let r = rest_at i c.0 c.1 in
      let g = goes p holds.problem i c.0 r in
      sym b.2 ∙ (ap (λ (t : BlockState). t.place) (sym c.2) ∙ (ap (λ (t : FluxPart). t.before.place) g.part ∙ same_Some r.handled.part.before.place y (sym (part_place p i r.handled.part r.handled.here) ∙ there))))

  pub rest_advanced : AreAdvanced p cells
  rest_advanced fluxes made =
      filled-state_by (λ b. b.amounts) p.setting.grid (state_in p).leaves p.setting.edge p.setting.fields blocks function rest_places (λ i b here.
      let c = get-map_back (λ (c : FluxState). c.block) cells i b here in
      subst (λ (x : BlockState). x.amounts ≡ map (λ f. map (function f) (cells_of p.setting.edge x.place)) (range_with_len 0 p.setting.fields)) c.2 (of_cell i c.0 c.1))
    where
      function : ℕ → Cube → ℕ
      function f v = held (state_in p) f v - given (state_in p) (finer_across (state_in p)) fluxes f v + taken (state_in p) (finer_across (state_in p)) fluxes f v

      some : 0 < p.setting.edge
      some = omega (arith, holds.problem.least)

      of_cell : (i : ℕ) (c : FluxState) → slice_get cells i ≡ Some c → c.block.amounts ≡ map (λ f. map (function f) (cells_of p.setting.edge c.block.place)) (range_with_len 0 p.setting.fields)
      of_cell i c here =
          let r = rest_at i c here in
          let g = goes p holds.problem i c r in
          let n = p.setting.edge in
          let edge : c.block.edge ≡ n = ap (λ (t : FluxPart). t.before.edge) g.part ∙ (holds.problem.leaves i r.handled.part r.handled.here).same_edge in
          let place : c.block.place ≡ r.handled.part.before.place = ap (λ (t : FluxPart). t.before.place) g.part in
          lists-filled c.block.amounts n p.setting.fields c.block.place function some g.fields
          (λ f q at. g.limits.all_cells f q at ∙ ap (λ (m : ℕ). m * m * m) edge)
          (λ f j known within.
          let v = cell_at n c.block.place j in
          ap (λ (m : ℕ). slice_index (amounts_of c.block f) m) (sym (cell_number-cell_at n some c.block.place j within))
          ∙ done-amount p holds.problem i c r fluxes f v made known (block_of-cell_at n some c.block.place j within ∙ place))

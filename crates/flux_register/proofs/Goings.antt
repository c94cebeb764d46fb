-- A cell after some of the messages to it.
use Rattle.std.proofs.Common.{◌≡◌, ℕ, ◌+◌, ◌-◌, ◌%◌, ◌<◌, ◌&&◌, Bool, true, false, cond, List, [], ◌∷◌, Some, length, map, refl, sym, ap, ◌∙◌, subst, arith, inl, inr}
use Rattle.std.specs.Prelude.{Contains, slice_get, slice_index}
use Rattle.std.specs.List.{list_any}
use Rattle.std.proofs.lemmas.Bool.{cases_Bool}
use Rattle.std.proofs.lemmas.Nat.{mod_below}
use Rattle.phase_core.specs.Lemmas.Lookups.{Contains-at}
use Rattle.owed_phase.specs.Plans.{inbox, all_of}
use Rattle.owed_phase.specs.Rest.{IsAmong, HasHandled}
use Rattle.owed_phase.specs.Lemmas.Moves.{Contains-cons_more}
use Rattle.owed_phase.specs.Lemmas.States.{by_messages}
use Rattle.block_index.specs.Places.{Cube}
use Rattle.leaf_set.specs.Meshes.{IsLeaf}
use Rattle.block_fields.specs.Blocks.{IsBlock, amounts_of, amount_at, number_at}
use Rattle.block_fields.specs.Cells.{block_of, cell_number, is_same}
use Rattle.block_fields.specs.States.{State, held}
use Rattle.block_fields.proofs.BlockSamples.{held-at}
use Rattle.grid_fluxes.specs.Axes.{Axis, along_x, along_y, along_z, next_cell}
use Rattle.grid_fluxes.specs.Bounds.{IsWithinFiner}
use Rattle.grid_fluxes.specs.Fluxes.{Fluxes, advanced_by, given, given_along, none_across, over_axes, taken, taken_along}
use Rattle.grid_fluxes.proofs.Replacing.{held-advanced_by, held-not_replaced}
use Rattle.advect.specs.FaceFluxes.{FaceFluxState, axis_of, is_end}
use Rattle.advect.specs.Flows.{goes_up_by}
use Rattle.advect.specs.FluxPieces.{FluxPieceState, StaysWithin, corrected, is_behind}
use Rattle.advect.specs.OwnFluxes.{gives_along, takes_along}
use Rattle.flux_register.specs.declared.flux_msg.FluxMsg.{FluxMsg}
use Rattle.flux_register.specs.declared.flux_msg.FluxMsg.TheVariants.{Start, Piece}
use Rattle.flux_register.specs.Cells.{FluxPart, FluxState, FluxProblem, blank, kept, state_in, unadvanced}
use Rattle.flux_register.specs.React.{flux_react, corrected_block}
use Rattle.flux_register.specs.Made.{IsMadeBy, kept_after, kept_before, kept_flux}
use Rattle.flux_register.specs.Problem.{IsFresh, IsFluxProblem, flux_plan}
use Rattle.flux_register.specs.States.{CarriesSums, pieces_in, replaces, used_across}
use Rattle.flux_register.proofs.Across.{replaces-own, step-above, step-below, step-none, used-within}
use Rattle.flux_register.proofs.Corrections.{corrected-fields, corrected-limits, corrected-there}
use Rattle.flux_register.proofs.Messages.{inbox_right, part_amounts, part_fields, part_place, right_piece}
use Rattle.flux_register.proofs.Once.{first_for, pieces-contain}
use Rattle.flux_register.proofs.PieceSums.{behind-is}
use Rattle.flux_register.proofs.Replaced.{corrected-value, sided, stays-within}

-- What stands for the cell of part k at position i after these messages, the last first.
pub record Goes (p : FluxProblem) (i : ℕ) (k : FluxPart) (c : FluxState) (done : List FluxMsg) : Type 0 where
  pub part : kept c ≡ k
  pub limits : IsBlock c.block
  pub fields : length c.block.amounts ≡ p.setting.fields
  pub right : (q : FluxPieceState) → Contains (pieces_in done) q → CarriesSums p i q
  pub amounts : (fluxes : Fluxes) (f : ℕ) (v : Cube) → IsMadeBy p fluxes → f < p.setting.fields → block_of p.setting.edge v ≡ k.before.place →
      slice_index (amounts_of c.block f) (cell_number p.setting.edge v)
      ≡ held (advanced_by (state_in p) (used_across p.setting.edge k.before.place (pieces_in done)) fluxes) f v
  pub owed : c.owed ≡ cond c.started [] (map (blank p.setting) k.owes)

same_axes : (g h : Axis → ℕ) → ((a : Axis) → g a ≡ h a) → over_axes g ≡ over_axes h
same_axes g h e = let x = e along_x in let y = e along_y in let z = e along_z in omega arith

module _ (p : FluxProblem) (valid : IsFluxProblem p) (i : ℕ) where
  abbrev s : State
  s = state_in p

  abbrev n : ℕ
  n = p.setting.edge

  some : 0 < n
  some = omega (arith, valid.least)

  module _ (k : FluxPart) (here : slice_get p.parts i ≡ Some k) where
    -- by no piece, each face carries its own flux
    none-used : (fluxes : Fluxes) (f : ℕ) (v : Cube) → f < p.setting.fields → block_of n v ≡ k.before.place → held (advanced_by s none_across fluxes) f v ≡ held (advanced_by s (used_across n k.before.place []) fluxes) f v
    none-used fluxes f v known own =
        held-not_replaced s (used_across n k.before.place []) none_across fluxes f v valid.state known (i, part_place p i k here ∙ ap Some (sym own))
        (record { below = λ b. sym (empty (is_same k.before.place (block_of n v))); above = λ b. sym (empty (is_same k.before.place (block_of n v))) })
      where
        empty : (b : Bool) → (b && false) ≡ false
        empty true = refl
        empty false = refl

    goes-fresh : (c : FluxState) → IsFresh p.setting c → kept c ≡ k → Goes p i k c []
    goes-fresh c fresh is = record {
      part = is;
      limits = fresh.limits;
      fields = sym fresh.limits.one_before_each ∙ (ap (λ (x : FluxPart). length x.before.amounts) is ∙ part_fields p valid i k here);
      right = λ q h. absurd (omega (arith, h.1));
      amounts = provisional;
      owed = fresh.owed ∙ (ap (λ (x : FluxPart). map (blank p.setting) x.owes) is ∙ ap (λ (b : Bool). cond b [] (map (blank p.setting) k.owes)) (sym fresh.started));
    }
      where
        provisional : (fluxes : Fluxes) (f : ℕ) (v : Cube) → IsMadeBy p fluxes → f < p.setting.fields → block_of n v ≡ k.before.place →
            slice_index (amounts_of c.block f) (cell_number n v) ≡ held (advanced_by s (used_across n k.before.place []) fluxes) f v
        provisional fluxes f v made known own =
            let b = c.block in
            let x = v.x % n in let y = v.y % n in let z = v.z % n in
            let edge : b.edge ≡ n = ap (λ (t : FluxPart). t.before.edge) is ∙ (valid.leaves i k here).same_edge in
            let within : (m : ℕ) → m < n → m < b.edge = λ m h. omega (arith, h, edge) in
            let fields : f < length b.before = (let e = ap (λ (t : FluxPart). length t.before.amounts) is ∙ part_fields p valid i k here in omega (arith, e, known)) in
            let has = made.each i k here in
            let own' : FluxPart → Axis → ℕ = λ t a. gives_along (kept_flux t.before t.faces) (goes_up_by t.faces.velocity) f x y z a in
            let own'' : FluxPart → Axis → ℕ = λ t a. takes_along (kept_flux t.before t.faces) (goes_up_by t.faces.velocity) f x y z a in
            let g : over_axes (own' (kept c)) ≡ given s none_across fluxes f v =
            ap (λ (t : FluxPart). over_axes (own' t)) is
            ∙ same_axes (own' k) (given_along s none_across fluxes f v) (λ a.
            ap (λ (t : Bool). cond t (kept_after n k.before k.faces f a v) (kept_before n k.before k.faces f a v)) (has.goes_up a) ∙ choice (fluxes.goes_up a) (kept_after n k.before k.faces f a v) (kept_before n k.before k.faces f a v) (fluxes.level_flux f a (next_cell a s.grid n v)) (fluxes.level_flux f a v) (has.after f a v known own) (has.before f a v known own)) in
            let t : over_axes (own'' (kept c)) ≡ taken s none_across fluxes f v =
            ap (λ (t : FluxPart). over_axes (own'' t)) is
            ∙ same_axes (own'' k) (taken_along s none_across fluxes f v) (λ a.
            ap (λ (t : Bool). cond t (kept_before n k.before k.faces f a v) (kept_after n k.before k.faces f a v)) (has.goes_up a) ∙ choice (fluxes.goes_up a) (kept_before n k.before k.faces f a v) (kept_after n k.before k.faces f a v) (fluxes.level_flux f a v) (fluxes.level_flux f a (next_cell a s.grid n v)) (has.before f a v known own) (has.after f a v known own)) in
            let was : amount_at (unadvanced b) f x y z ≡ held s f v =
            ap (λ (t : FluxPart). slice_index (amounts_of t.before f) (number_at t.before.edge x y z)) is
            ∙ (ap (λ (m : ℕ). slice_index (amounts_of k.before f) (number_at m x y z)) (valid.leaves i k here).same_edge
            ∙ sym (held-at s valid.state f i k.before.place v k.before.amounts (part_place p i k here) (part_amounts p i k here) own)) in
            let now = fresh.provisional.amounts f x y z fields (within (v.x % n) (mod_below v.x n some)) (within (v.y % n) (mod_below v.y n some)) (within (v.z % n) (mod_below v.z n some)) in
            let read : slice_index (amounts_of b f) (cell_number n v) ≡ amount_at b f x y z = ap (λ (m : ℕ). slice_index (amounts_of b f) (number_at m x y z)) (sym edge) in
            let leaf : IsLeaf s.leaves (block_of n v) = (i, part_place p i k here ∙ ap Some (sym own)) in
            read ∙ (now ∙ (ap (λ (m : ℕ). m - over_axes (own' (kept c)) + over_axes (own'' (kept c))) was
            ∙ (ap (λ (m : ℕ). held s f v - m + over_axes (own'' (kept c))) g
            ∙ (ap (λ (m : ℕ). held s f v - given s none_across fluxes f v + m) t
            ∙ (sym (held-advanced_by s none_across fluxes f v valid.state known leaf) ∙ none-used fluxes f v known own)))))
          where
            choice : (b : Bool) (u w x y : ℕ) → u ≡ x → w ≡ y → cond b u w ≡ cond b x y
            choice true u w x y e f = e
            choice false u w x y e f = f

    goes-start : (c : FluxState) (done : List FluxMsg) → Goes p i k c done → Goes p i k (flux_react p i c Start).cell (Start ∷ done)
    goes-start c done goes = record {
      part = goes.part;
      limits = goes.limits;
      fields = goes.fields;
      right = goes.right;
      amounts = goes.amounts;
      owed = refl;
    }

    -- a piece that comes: where it lies, the amounts are corrected, and they can be
    module _ (c : FluxState) (done : List FluxMsg) (q : FluxPieceState) (among : IsAmong (Piece q ∷ done) (inbox i (all_of (flux_plan p) p.parts))) (goes : Goes p i k c done) where
      pub carries : CarriesSums p i q
      carries = inbox_right p valid i (Piece q) (among.one_of (Piece q) (Contains-at (Piece q ∷ done) 0 (Piece q) refl))

      abbrev used : List FluxPieceState
      used = pieces_in done

      rights : (x : FluxPieceState) → Contains (q ∷ used) x → CarriesSums p i x
      rights x h = inbox_right p valid i (Piece x) (among.one_of (Piece x) (pieces-contain (Piece q ∷ done) x h))

      edge : c.block.edge ≡ n
      edge = ap (λ (t : FluxPart). t.before.edge) goes.part ∙ (valid.leaves i k here).same_edge

      place : c.block.place ≡ k.before.place
      place = ap (λ (t : FluxPart). t.before.place) goes.part

      q-edge : q.edge ≡ n
      q-edge = ap (λ (x : FluxPieceState). x.edge) carries.sums

      module _ (fluxes : Fluxes) (f : ℕ) (v : Cube) (made : IsMadeBy p fluxes) (known : f < p.setting.fields) (own : block_of n v ≡ k.before.place) (amount : ℕ) (was : amount ≡ held (advanced_by s (used_across n k.before.place used) fluxes) f v) (behind : is_behind q (v.x % n) (v.y % n) (v.z % n) ≡ true) where
        fresh-side : (x : FluxPieceState) → q ≡ x → is_behind x (v.x % n) (v.y % n) (v.z % n) ≡ true → IsAmong (Piece x ∷ done) (inbox i (all_of (flux_plan p) p.parts)) → list_any (replaces n (sided (axis_of x.side) (is_end x.side)) v) used ≡ false
        fresh-side x e b h = first_for p valid i k here (axis_of x.side) (is_end x.side) v own x done h (replaces-own n k.before.place v own x used b)

        abbrev right : FluxPieceState
        right = right_piece p carries.sender carries.face

        there : is_behind right (v.x % n) (v.y % n) (v.z % n) ≡ true
        there = subst (λ (x : FluxPieceState). is_behind x (v.x % n) (v.y % n) (v.z % n) ≡ true) carries.sums behind

        fresh : list_any (replaces n (sided (axis_of right.side) (is_end right.side)) v) used ≡ false
        fresh = fresh-side right carries.sums there (subst (λ (x : FluxPieceState). IsAmong (Piece x ∷ done) (inbox i (all_of (flux_plan p) p.parts))) carries.sums among)

        within-one : IsWithinFiner s (used_across n k.before.place used)
        within-one = used-within p valid i k here used (λ x h. rights x (Contains-cons_more q used x h))

        within-other : IsWithinFiner s (used_across n k.before.place (right ∷ used))
        within-other = subst (λ (x : FluxPieceState). IsWithinFiner s (used_across n k.before.place (x ∷ used))) carries.sums (used-within p valid i k here (q ∷ used) rights)

        value : corrected k.faces q f (v.x % n) (v.y % n) (v.z % n) amount ≡ held (advanced_by s (used_across n k.before.place (q ∷ used)) fluxes) f v
        value = subst (λ (x : FluxPieceState). corrected k.faces x f (v.x % n) (v.y % n) (v.z % n) amount ≡ held (advanced_by s (used_across n k.before.place (x ∷ used)) fluxes) f v) (sym carries.sums)
            (corrected-value p valid i k here carries.face carries.is_face carries.sender carries.sends carries.receives fluxes made f known v own (behind-is right v there)
            (used_across n k.before.place used) (used_across n k.before.place (right ∷ used)) within-one within-other
            (step-above n k.before.place v own right used there fresh) (step-below n k.before.place v own right used there fresh) amount was)

        pub stays : StaysWithin k.faces q f (v.x % n) (v.y % n) (v.z % n) amount
        stays = subst (λ (x : FluxPieceState). StaysWithin k.faces x f (v.x % n) (v.y % n) (v.z % n) amount) (sym carries.sums)
            (stays-within p valid i k here carries.face carries.is_face carries.sender carries.sends carries.receives fluxes made f known v own (behind-is right v there)
            (used_across n k.before.place used) (used_across n k.before.place (right ∷ used)) within-one within-other
            (step-above n k.before.place v own right used there fresh) (step-below n k.before.place v own right used there fresh) amount was)

      goes-piece : Goes p i k (flux_react p i c (Piece q)).cell (Piece q ∷ done)
      goes-piece = record {
        part = goes.part;
        limits = corrected-limits c.faces q c.block goes.limits;
        fields = corrected-fields c.faces q c.block goes.limits ∙ goes.fields;
        right = rights;
        amounts = after;
        owed = goes.owed;
      }
        where
          faces : c.faces ≡ k.faces
          faces = ap (λ (t : FluxPart). t.faces) goes.part

          after : (fluxes : Fluxes) (f : ℕ) (v : Cube) → IsMadeBy p fluxes → f < p.setting.fields → block_of n v ≡ k.before.place →
              slice_index (amounts_of (corrected_block c.faces q c.block) f) (cell_number n v) ≡ held (advanced_by s (used_across n k.before.place (q ∷ used)) fluxes) f v
          after fluxes f v made known own =
              let was = goes.amounts fluxes f v made known own in
              let amount = slice_index (amounts_of c.block f) (cell_number n v) in
              let x = v.x % n in let y = v.y % n in let z = v.z % n in
              let is = corrected-there c.faces q c.block goes.limits n f v edge (omega (arith, known, goes.fields)) (own ∙ sym place) in
              elim (cases_Bool (is_behind q x y z)) [
                | inl yes' ↦
                    is ∙ (ap (λ (t : Bool). cond t (corrected c.faces q f x y z amount) amount) yes'
                    ∙ (ap (λ (t : FaceFluxState). corrected t q f x y z amount) faces ∙ value fluxes f v made known own amount was yes'))
                | inr not ↦
                    is ∙ (ap (λ (t : Bool). cond t (corrected c.faces q f x y z amount) amount) not
                    ∙ (was ∙ sym (held-not_replaced s (used_across n k.before.place used) (used_across n k.before.place (q ∷ used)) fluxes f v valid.state known (i, part_place p i k here ∙ ap Some (sym own)) (step-none n k.before.place v own q used not))))
              ]

  -- each cell after what it has handled
  pub handled_goes : (c : FluxState) (done : List FluxMsg) (handled : HasHandled (flux_plan p) p.parts i c done) → Goes p i handled.part c done
  handled_goes c done handled = by_messages (flux_plan p) p.parts (Goes p i) i c done (λ k first here fresh is. goes-fresh k here first fresh is) step handled
    where
      step : (k : FluxPart) (now : FluxState) (m : FluxMsg) (before : List FluxMsg) → slice_get p.parts i ≡ Some k → IsAmong (m ∷ before) (inbox i (all_of (flux_plan p) p.parts)) → Goes p i k now before → Goes p i k (flux_react p i now m).cell (m ∷ before)
      step k now Start before here among goes = goes-start k here now before goes
      step k now (Piece q) before here among goes = goes-piece k here now before q among goes

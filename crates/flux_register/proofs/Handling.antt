-- Where a message is handled: a cell can sum up what it owes, and can be corrected by a piece.
use Rattle.std.proofs.Common.{◌≡◌, ℕ, ◌+◌, ◌*◌, ◌/◌, ◌%◌, ◌<◌, Bool, true, false, cond, List, [], ◌∷◌, length, map, refl, sym, ap, ◌∙◌, subst, arith, inl, inr}
use Rattle.std.specs.Prelude.{Contains, replicate, slice_index}
use Rattle.std.proofs.lemmas.Bool.{cases_Bool}
use Rattle.std.proofs.lemmas.Nat.{div-mul-add, mod-mul-add}
use Rattle.std.proofs.lemmas.List.{length-replicate}
use Rattle.std.proofs.lemmas.List.FromFn.{length-map-range_with_len}
use Rattle.phase_core.specs.declared.envelope.Envelope.{Envelope}
use Rattle.phase_core.specs.Lemmas.Lookups.{Contains-map_back}
use Rattle.phase_core.specs.Stands.{CanHandle}
use Rattle.owed_phase.specs.Plans.{inbox, all_of, Due}
use Rattle.owed_phase.specs.Rest.{HasHandled, IsAmong}
use Rattle.owed_phase.specs.Lemmas.OwingLaws.{due_there}
use Rattle.owed_phase.specs.Lemmas.States.{due_among, due_handled}
use Rattle.block_index.specs.Places.{Cube}
use Rattle.leaf_set.proofs.Containment.{same_cube}
use Rattle.block_fields.specs.Blocks.{amount_at, amounts_of, number_at}
use Rattle.block_fields.specs.Cells.{block_of, cell_number}
use Rattle.advect.specs.FaceFluxes.{FaceFluxState, fluxes_on}
use Rattle.advect.specs.FluxPieces.{FluxPieceState, StaysWithin, is_behind, sums_of_four}
use Rattle.flux_register.specs.declared.flux_msg.FluxMsg.{FluxMsg}
use Rattle.flux_register.specs.declared.flux_msg.FluxMsg.TheVariants.{Piece}
use Rattle.flux_register.specs.Faces.{FluxFace, opposite}
use Rattle.flux_register.specs.Cells.{Setting, FluxPart, FluxState, FluxProblem, blank, problem_of}
use Rattle.flux_register.specs.Problem.{IsFluxPart, IsFluxProblem, FluxFixHolds, flux_plan}
use Rattle.flux_register.specs.States.{CarriesSums}
use Rattle.flux_register.specs.Lemmas.FluxLaws.{is_plan}
use Rattle.flux_register.specs.Lemmas.Sending.{CanCorrect, CanReduce}
use Rattle.flux_register.proofs.Goings.{Goes, carries, handled_goes, stays}

-- an owed piece of a cell: it hasn't started, and the piece is among those of its part
pub owed-waits : (c : FluxState) (all : List FluxPieceState) (q : FluxPieceState) → c.owed ≡ cond c.started [] all → Contains c.owed q → (c.started ≡ false) × Contains all q
owed-waits c all q owed h = elim (cases_Bool c.started) [
  | inl is ↦
      let none : c.owed ≡ [] = owed ∙ ap (λ (b : Bool). cond b [] all) is in
      absurd (omega (arith, (subst (λ (l : List FluxPieceState). Contains l q) none h).1))
  | inr not ↦ (not, subst (λ (l : List FluxPieceState). Contains l q) (owed ∙ ap (λ (b : Bool). cond b [] all) not) h)
]

module _ (setting : Setting) (at : ℕ) (c : FluxState) (m : FluxMsg) (can : CanHandle FluxFixHolds (problem_of setting) at c m) where
  abbrev p : FluxProblem
  p = problem_of setting can.0

  abbrev valid : IsFluxProblem p
  valid = can.2.valid.problem

  abbrev e : Envelope FluxMsg
  e = record { to = at; msg = m }

  due : Due (flux_plan p) p.parts e c
  due = due_there IsFluxProblem flux_plan (λ q. q.parts) (λ q v. is_plan q) (problem_of setting) at c m can.0 can.1 can.2

  abbrev stands : HasHandled (flux_plan p) p.parts at c (inbox at due.handled)
  stands = due_handled (flux_plan p) p.parts e c due

  goes : Goes p at stands.part c (inbox at due.handled)
  goes = handled_goes p valid at c (inbox at due.handled) stands

  leaf : IsFluxPart p at stands.part
  leaf = valid.leaves at stands.part stands.here

  faces : c.faces ≡ stands.part.faces
  faces = ap (λ (t : FluxPart). t.faces) goes.part

  faces-edge : c.faces.edge ≡ setting.edge
  faces-edge = ap (λ (t : FaceFluxState). t.edge) faces ∙ leaf.faces_edge

  faces-fields : c.faces.fields ≡ setting.fields
  faces-fields = ap (λ (t : FaceFluxState). t.fields) faces ∙ leaf.faces_fields

  edge : c.block.edge ≡ setting.edge
  edge = ap (λ (t : FluxPart). t.before.edge) goes.part ∙ leaf.same_edge

  pub reduces_there : CanReduce c.faces c.owed
  reduces_there = record {
    edge = λ q h. let b = owed q h in sym (ap (λ (x : FluxPieceState). x.edge) b.2) ∙ sym faces-edge;
    fields = λ q h. let b = owed q h in sym (ap (λ (x : FluxPieceState). length x.sums) b.2) ∙ (length-replicate setting.fields (replicate (setting.edge / 2 * (setting.edge / 2)) 0) ∙ sym faces-fields);
  }
    where
      owed : (q : FluxPieceState) → Contains c.owed q → (face : FluxFace) × Contains stands.part.owes face × (blank setting face ≡ q)
      owed q h = Contains-map_back (blank setting) stands.part.owes q (owed-waits c (map (blank setting) stands.part.owes) q goes.owed h).1

  module _ (q : FluxPieceState) (is : m ≡ Piece q) where
    among : IsAmong (Piece q ∷ inbox at due.handled) (inbox at (all_of (flux_plan p) p.parts))
    among = subst (λ (x : FluxMsg). IsAmong (x ∷ inbox at due.handled) (inbox at (all_of (flux_plan p) p.parts))) is (due_among (flux_plan p) p.parts e c due)

    right : CarriesSums p at q
    right = carries p valid at stands.part stands.here c (inbox at due.handled) q among goes

    stays_there : (f x y z : ℕ) → f < length c.block.amounts → x < c.block.edge → y < c.block.edge → z < c.block.edge → is_behind q x y z ≡ true → StaysWithin c.faces q f x y z (amount_at c.block f x y z)
    stays_there f x y z known hx hy hz behind =
        let n = setting.edge in
        let place = stands.part.before.place in
        let v : Cube = record { level = place.level; x = place.x * n + x; y = place.y * n + y; z = place.z * n + z } in
        let wx : x < n = omega (arith, hx, edge) in
        let wy : y < n = omega (arith, hy, edge) in
        let wz : z < n = omega (arith, hz, edge) in
        let ex : v.x % n ≡ x = mod-mul-add place.x n x wx in
        let ey : v.y % n ≡ y = mod-mul-add place.y n y wy in
        let ez : v.z % n ≡ z = mod-mul-add place.z n z wz in
        let own : block_of n v ≡ place = same_cube (block_of n v) place refl (div-mul-add place.x n x wx) (div-mul-add place.y n y wy) (div-mul-add place.z n z wz) in
        let some : f < setting.fields = omega (arith, known, goes.fields) in
        let amount = slice_index (amounts_of c.block f) (cell_number n v) in
        let there : is_behind q (v.x % n) (v.y % n) (v.z % n) ≡ true =
        ap (λ (t : ℕ). is_behind q t (v.y % n) (v.z % n)) ex ∙ (ap (λ (t : ℕ). is_behind q x t (v.z % n)) ey ∙ (ap (λ (t : ℕ). is_behind q x y t) ez ∙ behind)) in
        let ok = stays p valid at stands.part stands.here c (inbox at due.handled) q among goes valid.fluxes f v valid.made some own amount (goes.amounts valid.fluxes f v valid.made some own) there in
        let same : amount ≡ amount_at c.block f x y z =
        ap (λ (t : ℕ). slice_index (amounts_of c.block f) (number_at n t (v.y % n) (v.z % n))) ex
        ∙ (ap (λ (t : ℕ). slice_index (amounts_of c.block f) (number_at n x t (v.z % n))) ey
        ∙ (ap (λ (t : ℕ). slice_index (amounts_of c.block f) (number_at n x y t)) ez
        ∙ ap (λ (t : ℕ). slice_index (amounts_of c.block f) (number_at t x y z)) (sym edge))) in
        subst (λ (t : ℕ). StaysWithin c.faces q f x y z t) same
        (subst (λ (t : ℕ). StaysWithin c.faces q f x y t amount) ez
        (subst (λ (t : ℕ). StaysWithin c.faces q f x t (v.z % n) amount) ey
        (subst (λ (t : ℕ). StaysWithin c.faces q f t (v.y % n) (v.z % n) amount) ex
        (subst (λ (t : FaceFluxState). StaysWithin t q f (v.x % n) (v.y % n) (v.z % n) amount) (sym faces) ok))))

    pub corrects_there : CanCorrect c q
    corrects_there = record {
      limits = goes.limits;
      edge = faces-edge ∙ sym edge;
      same_edge = ap (λ (x : FluxPieceState). x.edge) right.sums ∙ sym edge;
      fields = faces-fields ∙ sym goes.fields;
      same_fields = ap (λ (x : FluxPieceState). length x.sums) right.sums
          ∙ (length-map-range_with_len (λ f. sums_of_four right.sender.faces.edge (fluxes_on right.sender.faces f (opposite right.face.side))) 0 right.sender.faces.fields
          ∙ ((valid.leaves right.face.from right.sender right.sends).faces_fields ∙ sym goes.fields));
      stays = stays_there;
    }

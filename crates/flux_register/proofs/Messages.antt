-- All messages of a phase: starts, and the pieces of the leaves, which carry sums to their receivers.
use Rattle.std.proofs.Common.{◌≡◌, ℕ, zero, suc, ◌<◌, List, [], ◌∷◌, ◌++◌, Some, length, map, refl, sym, ap, ◌∙◌, subst, arith, inl, inr}
use Rattle.std.specs.Prelude.{Contains, slice_get}
use Rattle.std.proofs.lemmas.List.{length-map}
use Rattle.std.proofs.lemmas.List.Elements.{Contains-append_cases, Contains-append_left}
use Rattle.std.proofs.lemmas.Option.{slice_get_within}
use Rattle.phase_core.specs.declared.envelope.Envelope.{Envelope}
use Rattle.phase_core.specs.Machine.{start_flight}
use Rattle.phase_core.specs.Lemmas.Lookups.{get-map, Contains-map, Contains-map_back, Contains-cons_cases}
use Rattle.phase_core.specs.Lemmas.Starts.{start_flight-suc}
use Rattle.owed_phase.specs.Plans.{owed_from, inbox, all_of}
use Rattle.owed_phase.specs.Lemmas.Moves.{get-some}
use Rattle.owed_phase.specs.Lemmas.Inboxes.{inbox-of}
use Rattle.owed_phase.specs.Lemmas.Owed.{owed_from-get, owed_from-has}
use Rattle.block_index.specs.Places.{Cube, IsInside}
use Rattle.block_fields.specs.Blocks.{BlockState}
use Rattle.block_fields.specs.States.{State}
use Rattle.advect.specs.FluxPieces.{FluxPieceState, reduced}
use Rattle.flux_register.specs.declared.flux_msg.FluxMsg.{FluxMsg}
use Rattle.flux_register.specs.declared.flux_msg.FluxMsg.TheVariants.{Start, Piece}
use Rattle.flux_register.specs.Faces.{FluxFace, IsFluxFace, opposite}
use Rattle.flux_register.specs.Cells.{FluxPart, FluxProblem, blank, state_in}
use Rattle.flux_register.specs.React.{flux_start, sent_piece}
use Rattle.flux_register.specs.Problem.{IsFluxProblem, flux_plan}
use Rattle.flux_register.specs.States.{CarriesSums, IsRightMsg}

-- a start message among the starts
start_of : (n : ℕ) (x : Envelope FluxMsg) → Contains (start_flight flux_start n) x → (x.to < n) × (x.msg ≡ Start)
start_of zero x h = absurd (omega (arith, h.1))
start_of (suc n) x h =
    let last : Envelope FluxMsg = record { to = n; msg = Start } in
    let there : Contains (start_flight flux_start n ++ last ∷ []) x = subst (λ (l : List (Envelope FluxMsg)). Contains l x) (start_flight-suc flux_start n) h in
    elim (Contains-append_cases (start_flight flux_start n) (last ∷ []) x there) [
      | inl early ↦ let s = start_of n x early in (omega (arith, s.0), s.1)
      | inr late ↦ elim (Contains-cons_cases last [] x late) [
        | inl same ↦
            let to : n ≡ x.to = ap (λ (e : Envelope FluxMsg). e.to) same in
            let msg : Start ≡ x.msg = ap (λ (e : Envelope FluxMsg). e.msg) same in
            (omega (arith, to), sym msg)
        | inr none ↦ absurd (omega (arith, none.1))
      ]
    ]

module _ (p : FluxProblem) where
  abbrev s : State
  s = state_in p

  abbrev all : List (Envelope FluxMsg)
  all = all_of (flux_plan p) p.parts

  -- the piece for a face of a sender, with its sums
  abbrev pub right_piece : FluxPart → FluxFace → FluxPieceState
  right_piece k face = reduced k.faces (opposite face.side) (blank p.setting face)

  pub part_place : (i : ℕ) (k : FluxPart) → slice_get p.parts i ≡ Some k → slice_get s.leaves i ≡ Some k.before.place
  part_place i k here = get-map (λ (b : BlockState). b.place) (map (λ (x : FluxPart). x.before) p.parts) i k.before (get-map (λ (x : FluxPart). x.before) p.parts i k here)

  pub part_amounts : (i : ℕ) (k : FluxPart) → slice_get p.parts i ≡ Some k → slice_get s.amounts i ≡ Some k.before.amounts
  part_amounts i k here = get-map (λ (b : BlockState). b.amounts) (map (λ (x : FluxPart). x.before) p.parts) i k.before (get-map (λ (x : FluxPart). x.before) p.parts i k here)

  pub leaves_long : length s.leaves ≡ length p.parts
  leaves_long = length-map (map (λ (x : FluxPart). x.before) p.parts) (λ (b : BlockState). b.place) ∙ length-map p.parts (λ (x : FluxPart). x.before)

  pub part_of_leaf : (i : ℕ) (place : Cube) → slice_get s.leaves i ≡ Some place → (k : FluxPart) × (slice_get p.parts i ≡ Some k)
  part_of_leaf i place here = get-some p.parts i (omega (arith, slice_get_within s.leaves i place here, leaves_long))

  module _ (valid : IsFluxProblem p) where
    pub part_fields : (i : ℕ) (k : FluxPart) → slice_get p.parts i ≡ Some k → length k.before.amounts ≡ p.setting.fields
    part_fields i k here = valid.state.all_fields i k.before.amounts (part_amounts i k here)

    pub part_inside : (i : ℕ) (k : FluxPart) → slice_get p.parts i ≡ Some k → IsInside p.setting.grid k.before.place
    part_inside i k here = valid.state.mesh.inside i k.before.place (part_place i k here)

    -- each message is right
    pub all_right : (x : Envelope FluxMsg) → Contains all x → IsRightMsg p x.to x.msg
    all_right x h = elim (Contains-append_cases (owed_from (flux_plan p).tells 0 p.parts) (start_flight flux_start (length p.parts)) x h) [
      | inl told ↦
          let at = owed_from-get (flux_plan p).tells 0 p.parts x told in
          let k = at.2 in
          let q = Contains-map_back (sent_piece k.faces) (map (blank p.setting) k.owes) x at.5 in
          let face = Contains-map_back (blank p.setting) k.owes q.0 q.1 in
          let owes = (valid.leaves at.1 k at.4).owes in
          let from : face.0.from ≡ at.1 = owes.own face.0 face.1 in
          let carries : CarriesSums p face.0.to (right_piece k face.0) = record {
            face = face.0;
            is_face = owes.each face.0 face.1;
            sender = k;
            sends = subst (λ (n : ℕ). slice_get p.parts n ≡ Some k) (sym from) at.4;
            receives = refl;
            sums = refl;
          } in
          let is : sent_piece k.faces (blank p.setting face.0) ≡ x = ap (sent_piece k.faces) face.2 ∙ q.2 in
          subst (λ (e : Envelope FluxMsg). IsRightMsg p e.to e.msg) is carries
      | inr start ↦
          let is = start_of (length p.parts) x start in
          subst (λ (m : FluxMsg). IsRightMsg p x.to m) (sym is.1) is.0
    ]

    pub inbox_right : (i : ℕ) (m : FluxMsg) → Contains (inbox i all) m → IsRightMsg p i m
    inbox_right i m h = all_right (record { to = i; msg = m }) (inbox-of i all m h)

    -- the piece of a face is among them
    pub face_sent : (face : FluxFace) → IsFluxFace s.grid s.leaves face → (k : FluxPart) × (slice_get p.parts face.from ≡ Some k) × Contains k.owes face
    face_sent face is =
        let k = part_of_leaf face.from face.place is.sends in
        (k.0, k.1, ((valid.leaves face.from k.0 k.1).owes).all face is refl)

    pub sent_among : (i : ℕ) (k : FluxPart) (face : FluxFace) → slice_get p.parts i ≡ Some k → Contains k.owes face → Contains all (record { to = face.to; msg = Piece (right_piece k face) })
    sent_among i k face here owes =
        let e : Envelope FluxMsg = sent_piece k.faces (blank p.setting face) in
        Contains-append_left (owed_from (flux_plan p).tells 0 p.parts) (start_flight flux_start (length p.parts)) e
        (owed_from-has (flux_plan p).tells 0 p.parts i i k e (omega arith) here (Contains-map (sent_piece k.faces) (map (blank p.setting) k.owes) (blank p.setting face) (Contains-map (blank p.setting) k.owes face owes)))

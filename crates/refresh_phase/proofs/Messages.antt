-- All messages of a phase: starts, and the pieces of the leaves, which carry samples to their receivers.
use Rattle.std.proofs.Common.{◌≡◌, ℕ, zero, suc, ◌*◌, ◌<◌, ◌≤◌, List, [], ◌∷◌, ◌++◌, Some, length, map, refl, sym, ap, ◌∙◌, subst, arith, inl, inr}
use Rattle.std.specs.Prelude.{Contains, slice_get}
use Rattle.std.proofs.lemmas.List.{length-map}
use Rattle.std.proofs.lemmas.List.Elements.{Contains-append_cases, Contains-append_left}
use Rattle.std.proofs.lemmas.Option.{slice_get_within}
use Rattle.phase_core.specs.declared.envelope.Envelope.{Envelope}
use Rattle.phase_core.specs.Machine.{start_flight}
use Rattle.phase_core.specs.Lemmas.Lookups.{get-map, get-map_back, Contains-get, Contains-at, Contains-map, Contains-map_back, Contains-cons_cases}
use Rattle.phase_core.specs.Lemmas.Starts.{start_flight-suc}
use Rattle.owed_phase.specs.Plans.{owed_from, inbox, all_of}
use Rattle.owed_phase.specs.Lemmas.Moves.{get-some}
use Rattle.owed_phase.specs.Lemmas.Inboxes.{inbox-of}
use Rattle.owed_phase.specs.Lemmas.Owed.{owed_from-get, owed_from-has}
use Rattle.block_index.specs.Places.{Cube}
use Rattle.block_fields.specs.Blocks.{BlockState}
use Rattle.block_fields.specs.BlockStates.{IsLeafOf}
use Rattle.block_fields.specs.States.{State}
use Rattle.ghost_pieces.specs.Pieces.{PieceState, AreOwedPieces, CarriesSamples, filled}
use Rattle.ghost_pieces.specs.Regions.{Region, IsRegion}
use Rattle.refresh_phase.specs.declared.refresh_msg.RefreshMsg.{RefreshMsg}
use Rattle.refresh_phase.specs.declared.refresh_msg.RefreshMsg.TheVariants.{Start}
use Rattle.refresh_phase.specs.Cells.{LeafPart, RefreshProblem, blank, own_cells, state_in}
use Rattle.refresh_phase.specs.React.{refresh_start, sent_piece}
use Rattle.refresh_phase.specs.Problem.{IsRefreshProblem, refresh_plan}
use Rattle.refresh_phase.specs.States.{IsRightMsg}
use Rattle.refresh_phase.proofs.GhostFacts.{facts}

-- a start message among the starts
start_of : (n : ℕ) (x : Envelope RefreshMsg) → Contains (start_flight refresh_start n) x → (x.to < n) × (x.msg ≡ Start)
start_of zero x h = absurd (omega (arith, h.1))
start_of (suc n) x h =
    let last : Envelope RefreshMsg = record { to = n; msg = Start } in
    let there : Contains (start_flight refresh_start n ++ last ∷ []) x = subst (λ (l : List (Envelope RefreshMsg)). Contains l x) (start_flight-suc refresh_start n) h in
    elim (Contains-append_cases (start_flight refresh_start n) (last ∷ []) x there) [
      | inl early ↦ let s = start_of n x early in (omega (arith, s.0), s.1)
      | inr late ↦ elim (Contains-cons_cases last [] x late) [
        | inl same ↦
            let to : n ≡ x.to = ap (λ (e : Envelope RefreshMsg). e.to) same in
            let msg : Start ≡ x.msg = ap (λ (e : Envelope RefreshMsg). e.msg) same in
            (omega (arith, to), sym msg)
        | inr none ↦ absurd (omega (arith, none.1))
      ]
    ]

module _ (p : RefreshProblem) where
  abbrev s : State
  s = state_in p

  abbrev all : List (Envelope RefreshMsg)
  all = all_of (refresh_plan p) p.parts

  -- the leaf of a part
  pub part_place : (i : ℕ) (k : LeafPart) → slice_get p.parts i ≡ Some k → slice_get s.leaves i ≡ Some k.own.place
  part_place i k here = get-map (λ (b : BlockState). b.place) (map (λ (x : LeafPart). x.own) p.parts) i k.own (get-map (λ (x : LeafPart). x.own) p.parts i k here)

  pub part_amounts : (i : ℕ) (k : LeafPart) → slice_get p.parts i ≡ Some k → slice_get s.amounts i ≡ Some k.own.amounts
  part_amounts i k here = get-map (λ (b : BlockState). b.amounts) (map (λ (x : LeafPart). x.own) p.parts) i k.own (get-map (λ (x : LeafPart). x.own) p.parts i k here)

  pub leaves_long : length s.leaves ≡ length p.parts
  leaves_long = length-map (map (λ (x : LeafPart). x.own) p.parts) (λ (b : BlockState). b.place) ∙ length-map p.parts (λ (x : LeafPart). x.own)

  pub part_of_leaf : (i : ℕ) (place : Cube) → slice_get s.leaves i ≡ Some place → (k : LeafPart) × (slice_get p.parts i ≡ Some k)
  part_of_leaf i place here = get-some p.parts i (omega (arith, slice_get_within s.leaves i place here, leaves_long))

  module _ (valid : IsRefreshProblem p) where
    pub deep : 2 * p.setting.depth ≤ p.setting.edge
    deep = omega (arith, valid.least, valid.deepest)

    pub some_cells : 0 < p.setting.edge
    some_cells = omega (arith, valid.least)

    pub part_leaf : (i : ℕ) (k : LeafPart) → slice_get p.parts i ≡ Some k → IsLeafOf s i k.own
    part_leaf i k here = record { same_edge = (valid.leaves i k here).same_edge; leaf = part_place i k here; held = part_amounts i k here }

    -- a block with the amounts of a part is its leaf too
    pub own_leaf : (i : ℕ) (k : LeafPart) (b : BlockState) → slice_get p.parts i ≡ Some k → own_cells b ≡ k.own → IsLeafOf s i b
    own_leaf i k b here own = record {
      same_edge = ap (λ (x : BlockState). x.edge) own ∙ (valid.leaves i k here).same_edge;
      leaf = part_place i k here ∙ ap (λ (x : BlockState). Some x.place) (sym own);
      held = part_amounts i k here ∙ ap (λ (x : BlockState). Some x.amounts) (sym own);
    }

    pub own_depth : (i : ℕ) (k : LeafPart) (b : BlockState) → slice_get p.parts i ≡ Some k → own_cells b ≡ k.own → b.depth ≡ p.setting.depth
    own_depth i k b here own = ap (λ (x : BlockState). x.depth) own ∙ (valid.leaves i k here).same_depth

    pub own_fields : (i : ℕ) (k : LeafPart) (b : BlockState) → slice_get p.parts i ≡ Some k → own_cells b ≡ k.own → length b.amounts ≡ p.setting.fields
    own_fields i k b here own = ap (λ (x : BlockState). length x.amounts) own ∙ valid.state.all_fields i k.own.amounts (part_amounts i k here)

    -- a piece that a leaf owes, filled
    pub filled_piece : (i : ℕ) (k : LeafPart) (q : PieceState) → slice_get p.parts i ≡ Some k → Contains (map (blank p.setting) k.owes) q → CarriesSamples s p.setting.depth (filled p.setting.grid k.own q)
    filled_piece i k q here owes =
        let leaf = valid.leaves i k here in
        let owed = map (blank p.setting) k.owes in
        let at = Contains-get owed q owes in
        let depth : k.own.depth ≡ p.setting.depth = leaf.same_depth in
        let owed_there : AreOwedPieces s.grid s.edge k.own.depth s.fields s.leaves i owed = subst (λ (d : ℕ). AreOwedPieces s.grid s.edge d s.fields s.leaves i owed) (sym depth) leaf.owes in
        let low : 2 * k.own.depth ≤ s.edge = omega (arith, deep, depth) in
        subst (λ (d : ℕ). CarriesSamples s d (filled p.setting.grid k.own q)) depth (facts.samples s i at.0 k.own owed q valid.state valid.even low (part_leaf i k here) owed_there at.1)

    -- each message is right
    pub all_right : (x : Envelope RefreshMsg) → Contains all x → IsRightMsg p x.to x.msg
    all_right x h = elim (Contains-append_cases (owed_from (refresh_plan p).tells 0 p.parts) (start_flight refresh_start (length p.parts)) x h) [
      | inl told ↦
          let at = owed_from-get (refresh_plan p).tells 0 p.parts x told in
          let q = Contains-map_back (sent_piece p.setting.grid at.2.own) (map (blank p.setting) at.2.owes) x at.5 in
          let carries = filled_piece at.1 at.2 q.0 at.4 q.1 in
          let within : q.0.region.receiver < length p.parts = omega (arith, slice_get_within s.leaves q.0.region.receiver q.0.receiver carries.leaves.receives, leaves_long) in
          subst (λ (e : Envelope RefreshMsg). IsRightMsg p e.to e.msg) q.2 (refl, within, carries)
      | inr start ↦
          let is = start_of (length p.parts) x start in
          subst (λ (m : RefreshMsg). IsRightMsg p x.to m) (sym is.1) is.0
    ]

    pub inbox_right : (i : ℕ) (m : RefreshMsg) → Contains (inbox i all) m → IsRightMsg p i m
    inbox_right i m h = all_right (record { to = i; msg = m }) (inbox-of i all m h)

    -- the piece of a region is among them
    pub region_sent : (r : Region) → IsRegion s.grid s.edge p.setting.depth s.leaves r → (k : LeafPart) × (q : PieceState) × (slice_get p.parts r.sender ≡ Some k) × (q.region ≡ r) × Contains (map (blank p.setting) k.owes) q
    region_sent r is =
        let k = part_of_leaf r.sender is.1.source is.1.sends in
        let member = ((valid.leaves r.sender k.0 k.1).owes).regions.all r is refl in
        let q = get-map_back (λ (x : PieceState). x.region) (map (blank p.setting) k.0.owes) member.0 r member.1 in
        (k.0, q.0, k.1, q.2, Contains-at (map (blank p.setting) k.0.owes) member.0 q.0 q.1)

    pub sent_among : (i : ℕ) (k : LeafPart) (q : PieceState) → slice_get p.parts i ≡ Some k → Contains (map (blank p.setting) k.owes) q → Contains all (sent_piece p.setting.grid k.own q)
    sent_among i k q here owes =
        Contains-append_left (owed_from (refresh_plan p).tells 0 p.parts) (start_flight refresh_start (length p.parts)) (sent_piece p.setting.grid k.own q)
        (owed_from-has (refresh_plan p).tells 0 p.parts i i k (sent_piece p.setting.grid k.own q) (omega arith) here (Contains-map (sent_piece p.setting.grid k.own) (map (blank p.setting) k.owes) q owes))

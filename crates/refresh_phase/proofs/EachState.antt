-- What the invariant says of each cell, region and message.
use Rattle.std.proofs.Common.{◌≡◌, ℕ, ◌+◌, ◌≤◌, Bool, true, false, cond, List, [], Some, map, refl, sym, ap, ◌∙◌, subst, arith, inl, inr}
use Rattle.std.specs.Prelude.{All, Contains, slice_get, sum_by}
use Rattle.std.proofs.lemmas.Bool.{cases_Bool, false≢true}
use Rattle.std.proofs.lemmas.List.Elements.{All-weaker, All-contains_itself}
use Rattle.std.proofs.lemmas.Option.{same_Some}
use Rattle.phase_core.specs.declared.envelope.Envelope.{Envelope}
use Rattle.phase_core.specs.Lemmas.Lookups.{Contains-get}
use Rattle.owed_phase.specs.Plans.{owed_from, inbox, all_of}
use Rattle.owed_phase.specs.Rest.{HasHandled}
use Rattle.owed_phase.specs.Lemmas.Inboxes.{inbox-has, inbox-of}
use Rattle.owed_phase.specs.Lemmas.Orders.{of_flight, handled_sum, all_handled_meet}
use Rattle.owed_phase.specs.Lemmas.States.{cell_handled, in_three_states, starts_in_flight}
use Rattle.ghost_pieces.specs.Filing.{Source, is_filed, is_same_source}
use Rattle.ghost_pieces.specs.Pieces.{PieceState}
use Rattle.ghost_pieces.specs.Regions.{Region, IsRegion}
use Rattle.std.specs.List.{list_any}
use Rattle.refresh_phase.specs.declared.refresh_msg.RefreshMsg.{RefreshMsg}
use Rattle.refresh_phase.specs.declared.refresh_msg.RefreshMsg.TheVariants.{Start, Piece}
use Rattle.refresh_phase.specs.Cells.{LeafPart, LeafState, RefreshProblem, blank, state_in}
use Rattle.refresh_phase.specs.Problem.{IsRefreshProblem, RefreshHolds, refresh_plan}
use Rattle.refresh_phase.specs.States.{same_region, piece_of, filed_in, owed_pieces_of, IsRightMsg, IsRightCell, IsRefreshState}
use Rattle.refresh_phase.specs.Lemmas.RefreshLaws.{is_plan}
use Rattle.refresh_phase.proofs.GhostFacts.{facts}
use Rattle.refresh_phase.proofs.Messages.{all_right, deep, some_cells}
use Rattle.refresh_phase.proofs.Goings.{Goes, handled_goes}
use Rattle.refresh_phase.proofs.Counts.{same-cases, same-one, sum-none, sum-some, owed-count, one-piece, of_r}

-- an owed piece of a cell: it hasn't started, and the piece is among those of its part
pub owed-waits : (c : LeafState) (all : List PieceState) (q : PieceState) → c.owed ≡ cond c.started [] all → Contains c.owed q → (c.started ≡ false) × Contains all q
owed-waits c all q owed h = elim (cases_Bool c.started) [
  | inl is ↦
      let none : c.owed ≡ [] = owed ∙ ap (λ (b : Bool). cond b [] all) is in
      absurd (omega (arith, (subst (λ (l : List PieceState). Contains l q) none h).1))
  | inr not ↦ (not, subst (λ (l : List PieceState). Contains l q) (owed ∙ ap (λ (b : Bool). cond b [] all) not) h)
]

module _ (p : RefreshProblem) (cells : List LeafState) (flight : List (Envelope RefreshMsg)) (holds : RefreshHolds p cells flight) where
  abbrev valid : IsRefreshProblem p
  valid = holds.problem

  abbrev all : List (Envelope RefreshMsg)
  all = all_of (refresh_plan p) p.parts

  each_right : All (λ (e : Envelope RefreshMsg). IsRightMsg p e.to e.msg) all
  each_right = All-weaker (Contains all) (λ (e : Envelope RefreshMsg). IsRightMsg p e.to e.msg) (all_right p valid) all (All-contains_itself all)

  module _ (i : ℕ) (c : LeafState) (here : slice_get cells i ≡ Some c) where
    handled : HasHandled (refresh_plan p) p.parts i c (inbox i holds.owing.handled)
    handled = cell_handled (refresh_plan p) p.parts cells flight holds.owing i c here

    goes : Goes p i handled.part c (inbox i holds.owing.handled)
    goes = handled_goes p valid i c (inbox i holds.owing.handled) handled

    right_cell : (k : LeafPart) → slice_get p.parts i ≡ Some k → IsRightCell p i k c
    right_cell k part =
        let same : handled.part ≡ k = same_Some handled.part k (sym handled.here ∙ part) in
        let leaf = valid.leaves i handled.part handled.here in
        let owed = map (blank p.setting) handled.part.owes in
        record {
          own = goes.own ∙ ap (λ (x : LeafPart). x.own) same;
          filed = goes.holds;
          waits = λ q h. (owed-waits c owed q goes.owed h).0;
          source = λ q h.
              let at = Contains-get owed q (owed-waits c owed q goes.owed h).1 in
              (facts.between p.setting.grid (state_in p).leaves p.setting.edge p.setting.depth p.setting.fields i at.0 owed q valid.state.domain valid.state.mesh valid.state.balanced valid.even (deep p valid) (some_cells p valid) leaf.owes at.1).0;
          zeros = λ q h.
              let at = Contains-get owed q (owed-waits c owed q goes.owed h).1 in
              leaf.owes.zeros at.0 q at.1;
        }

    -- where a piece of the region was handled, it is filed, and back
    module _ (r : Region) (is : IsRegion p.setting.grid p.setting.edge p.setting.depth (state_in p).leaves r) (receives : r.receiver ≡ i) where
      handled_right : (e : Envelope RefreshMsg) → Contains holds.owing.handled e → IsRightMsg p e.to e.msg
      handled_right e h = All-contains' (all_handled_meet (refresh_plan p) p.parts cells flight holds.owing (λ (x : Envelope RefreshMsg). IsRightMsg p x.to x.msg) each_right) e h
        where
          All-contains' : All (λ (x : Envelope RefreshMsg). IsRightMsg p x.to x.msg) holds.owing.handled → (x : Envelope RefreshMsg) → Contains holds.owing.handled x → IsRightMsg p x.to x.msg
          All-contains' every x at = subst (λ (y : Envelope RefreshMsg). IsRightMsg p y.to y.msg) at.2 (every at.0 x at.1)

      filed-count : sum_by (of_r p r) holds.owing.handled ≡ filed_in c r
      filed-count = elim (cases_Bool (is_filed c.filed r)) [
        | inl filed ↦
            let o = goes.only r filed in
            let e : Envelope RefreshMsg = record { to = i; msg = Piece o.0 } in
            let there : Contains holds.owing.handled e = inbox-of i holds.owing.handled (Piece o.0) o.1 in
            let to : o.0.region.receiver ≡ i = (handled_right e there).0 in
            let one : same_region r o.0.region ≡ 1 = same-one r o.0.region (receives ∙ sym to) (sym o.2) in
            let least : of_r p r e ≤ sum_by (of_r p r) holds.owing.handled = sum-some (of_r p r) holds.owing.handled e there in
            let most = handled_sum (refresh_plan p) p.parts cells flight holds.owing (of_r p r) in
            let is' : filed_in c r ≡ 1 = ap (λ (b : Bool). cond {A = ℕ} b 1 0) filed in
            omega (arith, one, least, most, one-piece p r valid is, is')
        | inr not ↦
            let is' : filed_in c r ≡ 0 = ap (λ (b : Bool). cond {A = ℕ} b 1 0) not in
            sum-none (of_r p r) holds.owing.handled (none not) ∙ sym is'
      ]
        where
          none_of : is_filed c.filed r ≡ false → (to : ℕ) (m : RefreshMsg) → Contains holds.owing.handled (record { to = to; msg = m }) → piece_of r m ≡ 0
          none_of not to Start h = refl
          none_of not to (Piece q) h = elim (same-cases r q.region) [
            | inl same ↦
                let at : q.region.receiver ≡ to = (handled_right (record { to = to; msg = Piece q }) h).0 in
                let there : Contains (inbox i holds.owing.handled) (Piece q) = subst (λ (n : ℕ). Contains (inbox n holds.owing.handled) (Piece q)) (sym at ∙ (sym same.1 ∙ receives)) (inbox-has (record { to = to; msg = Piece q }) holds.owing.handled h) in
                let filed : is_filed c.filed q.region ≡ true = goes.filed q there in
                let so : is_filed c.filed r ≡ is_filed c.filed q.region = ap (λ (x : Source). list_any (is_same_source x) c.filed) same.2 in
                absurd (false≢true (sym not ∙ (so ∙ filed)))
            | inr other ↦ other
          ]

          none : is_filed c.filed r ≡ false → (e : Envelope RefreshMsg) → Contains holds.owing.handled e → of_r p r e ≡ 0
          none not e h = none_of not e.to e.msg h

      region-count : filed_in c r + owed_pieces_of r cells + sum_by (of_r p r) flight ≡ 1
      region-count =
          let three : sum_by (of_r p r) holds.owing.handled + sum_by (of_r p r) (owed_from (refresh_plan p).owed 0 cells) + sum_by (of_r p r) flight ≡ sum_by (of_r p r) all = in_three_states (refresh_plan p) p.parts cells flight holds.owing (of_r p r) in
          omega (arith, three, filed-count, owed-count p r 0 cells, one-piece p r valid is)

  pub each_state : IsRefreshState p cells flight
  each_state = record {
    each = λ i k c part here. right_cell i c here k part;
    regions = λ r c is here. region-count r.receiver c here r is refl;
    starts = starts_in_flight (refresh_plan p) p.parts cells flight holds.owing (is_plan p);
    messages = of_flight (refresh_plan p) p.parts (λ (e : Envelope RefreshMsg). IsRightMsg p e.to e.msg) cells flight holds.owing each_right;
  }

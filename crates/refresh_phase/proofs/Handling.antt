-- Where a message is handled: a cell can fill what it owes, and there is room for a piece.
use Rattle.std.proofs.Common.{◌≡◌, ℕ, ◌<◌, ◌≤◌, ◌^◌, true, List, Some, length, map, sym, ap, ◌∙◌, subst, ◌⊎◌, inl, inr}
use Rattle.std.specs.Prelude.{Contains, slice_get, sum}
use Rattle.std.proofs.lemmas.Bool.{cases_Bool}
use Rattle.std.proofs.lemmas.Option.{same_Some}
use Rattle.phase_core.specs.declared.envelope.Envelope.{Envelope}
use Rattle.phase_core.specs.Lemmas.Lookups.{Contains-get}
use Rattle.phase_core.specs.Stands.{CanHandle}
use Rattle.owed_phase.specs.Plans.{inbox, Due}
use Rattle.owed_phase.specs.Rest.{HasHandled}
use Rattle.owed_phase.specs.Lemmas.OwingLaws.{due_there}
use Rattle.owed_phase.specs.Lemmas.Orders.{is_one}
use Rattle.owed_phase.specs.Lemmas.States.{due_handled}
use Rattle.block_fields.specs.Blocks.{BlockState, amounts_of}
use Rattle.ghost_pieces.specs.Filing.{is_filed}
use Rattle.ghost_pieces.specs.Pieces.{PieceState, FitsSize, HasRegion}
use Rattle.ghost_pieces.specs.Regions.{most_regions}
use Rattle.refresh_phase.specs.declared.refresh_msg.RefreshMsg.{RefreshMsg}
use Rattle.refresh_phase.specs.declared.refresh_msg.RefreshMsg.TheVariants.{Piece}
use Rattle.refresh_phase.specs.Cells.{Setting, LeafPart, LeafState, RefreshProblem, blank, problem_of, state_in}
use Rattle.refresh_phase.specs.Problem.{IsRefreshProblem, RefreshHolds, refresh_plan}
use Rattle.refresh_phase.specs.States.{IsRightMsg}
use Rattle.refresh_phase.specs.Lemmas.RefreshLaws.{is_plan}
use Rattle.refresh_phase.specs.Lemmas.Sending.{CanFill, CanSend}
use Rattle.refresh_phase.proofs.EachState.{owed-waits}
use Rattle.refresh_phase.proofs.GhostFacts.{facts}
use Rattle.refresh_phase.proofs.Goings.{Goes, handled_goes, piece_fits}
use Rattle.refresh_phase.proofs.Messages.{all_right, deep, some_cells, own_leaf, own_depth, own_fields}

-- a cell of part k that owes all of its pieces can fill them
can_send : (p : RefreshProblem) (valid : IsRefreshProblem p) (i : ℕ) (k : LeafPart) (c : LeafState) (done : List RefreshMsg) → slice_get p.parts i ≡ Some k → Goes p i k c done → CanSend p.setting.grid c
can_send p valid i k c done here goes = record {
  each = each;
  few = λ f. subst (λ (b : BlockState). sum (amounts_of b f) ≤ 2 ^ 42) (sym goes.own) ((valid.leaves i k here).few f);
}
  where
    each : (q : PieceState) → Contains c.owed q → CanFill p.setting.grid c.block q
    each q h =
        let owed = map (blank p.setting) k.owes in
        let at = Contains-get owed q (owed-waits c owed q goes.owed h).1 in
        let s = valid.state in
        let between = facts.between p.setting.grid (state_in p).leaves p.setting.edge p.setting.depth p.setting.fields i at.0 owed q s.domain s.mesh s.balanced valid.even (deep p valid) (some_cells p valid) (valid.leaves i k here).owes at.1 in
        let fits = facts.fits p.setting.grid (state_in p).leaves p.setting.edge p.setting.depth p.setting.fields i at.0 owed q s.domain s.mesh s.balanced valid.even (deep p valid) (some_cells p valid) (valid.leaves i k here).owes at.1 in
        let edge : c.block.edge ≡ p.setting.edge = (own_leaf p valid i k c.block here goes.own).same_edge in
        let depth : c.block.depth ≡ p.setting.depth = own_depth p valid i k c.block here goes.own in
        let fields : length c.block.amounts ≡ p.setting.fields = own_fields p valid i k c.block here goes.own in
        record {
          sender = same_Some q.sender c.block.place (sym between.2.sends ∙ (ap (slice_get (state_in p).leaves) between.0 ∙ (own_leaf p valid i k c.block here goes.own).leaf));
          region = subst (λ (n : ℕ). HasRegion p.setting.grid n c.block.depth q) (sym edge) (subst (λ (d : ℕ). HasRegion p.setting.grid p.setting.edge d q) (sym depth) fits.1);
          fits = subst (λ (n : ℕ). FitsSize n c.block.depth (length c.block.amounts) q) (sym edge)
              (subst (λ (d : ℕ). FitsSize p.setting.edge d (length c.block.amounts) q) (sym depth)
              (subst (λ (m : ℕ). FitsSize p.setting.edge p.setting.depth m q) (sym fields) fits.0));
        }

module _ (setting : Setting) (at : ℕ) (c : LeafState) (m : RefreshMsg) (can : CanHandle RefreshHolds (problem_of setting) at c m) where
  abbrev p : RefreshProblem
  p = problem_of setting can.0

  abbrev valid : IsRefreshProblem p
  valid = can.2.valid.problem

  abbrev e : Envelope RefreshMsg
  e = record { to = at; msg = m }

  due : Due (refresh_plan p) p.parts e c
  due = due_there IsRefreshProblem refresh_plan (λ q. q.parts) (λ q v. is_plan q) (problem_of setting) at c m can.0 can.1 can.2

  abbrev stands : HasHandled (refresh_plan p) p.parts at c (inbox at due.handled)
  stands = due_handled (refresh_plan p) p.parts e c due

  goes : Goes p at stands.part c (inbox at due.handled)
  goes = handled_goes p valid at c (inbox at due.handled) stands

  pub sends_there : CanSend setting.grid c
  sends_there = can_send p valid at stands.part c (inbox at due.handled) stands.here goes

  module _ (q : PieceState) (is : m ≡ Piece q) where
    right : IsRightMsg p at (Piece q)
    right = subst (λ (x : RefreshMsg). IsRightMsg p at x) is (all_right p valid e (is_one (refresh_plan p) p.parts e c due))

    pub receiver_there : q.receiver ≡ c.block.place
    receiver_there = same_Some q.receiver c.block.place (sym right.2.leaves.receives ∙ (ap (slice_get (state_in p).leaves) right.0 ∙ (own_leaf p valid at stands.part c.block stands.here goes.own).leaf))

    pub fits_there : FitsSize c.block.edge c.block.depth (length c.block.amounts) q
    fits_there = piece_fits p valid at stands.part c q stands.here goes.own right.2

    pub room_there : (length c.filed < most_regions) ⊎ (is_filed c.filed q.region ≡ true)
    room_there = elim (cases_Bool (is_filed c.filed q.region)) [
      | inl filed ↦ inr filed
      | inr not ↦ inl (facts.room p.setting.grid (state_in p).leaves p.setting.edge p.setting.depth at c.filed q.region valid.state.domain valid.state.mesh valid.even (deep p valid) (some_cells p valid) goes.once goes.sources right.0 right.2.region not)
    ]

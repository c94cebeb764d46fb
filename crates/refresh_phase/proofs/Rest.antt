-- What stands when nothing is in flight: all regions are filed, so the shells hold the samples.
use Rattle.std.proofs.Common.{◌≡◌, ℕ, Bool, true, cond, List, [], Some, map, sym, ap, ◌∙◌, subst}
use Rattle.std.specs.Prelude.{Contains, slice_get}
use Rattle.std.proofs.lemmas.Option.{same_Some}
use Rattle.phase_core.specs.declared.envelope.Envelope.{Envelope}
use Rattle.owed_phase.specs.Plans.{inbox, all_of}
use Rattle.owed_phase.specs.Rest.{HasHandled, IsDone}
use Rattle.owed_phase.specs.Lemmas.Inboxes.{inbox-has}
use Rattle.owed_phase.specs.Lemmas.OwingLaws.{at_rest_by}
use Rattle.block_fields.specs.Blocks.{IsBlock}
use Rattle.block_fields.specs.BlockStates.{HoldsSamples}
use Rattle.ghost_pieces.specs.Filing.{is_filed}
use Rattle.ghost_pieces.specs.Pieces.{filled}
use Rattle.ghost_pieces.specs.Regions.{Region}
use Rattle.ghost_pieces.specs.Shells.{AreAllFiled}
use Rattle.refresh_phase.specs.declared.refresh_msg.RefreshMsg.{RefreshMsg}
use Rattle.refresh_phase.specs.Cells.{LeafPart, LeafState, RefreshProblem, blank, own_cells, state_in}
use Rattle.refresh_phase.specs.React.{sent_piece, sent_pieces}
use Rattle.refresh_phase.specs.Problem.{IsRefreshProblem, RefreshHolds, refresh_plan}
use Rattle.refresh_phase.specs.States.{AreRefreshed}
use Rattle.refresh_phase.specs.Lemmas.RefreshLaws.{is_plan}
use Rattle.refresh_phase.proofs.GhostFacts.{facts}
use Rattle.refresh_phase.proofs.Goings.{Goes, handled_goes}
use Rattle.refresh_phase.proofs.Messages.{own_leaf, own_depth, region_sent, sent_among}

module _ (p : RefreshProblem) (valid : IsRefreshProblem p) (i : ℕ) (c : LeafState) (rests : IsDone (refresh_plan p) p.parts i c) where
  goes : Goes p i rests.handled.part c rests.done
  goes = handled_goes p valid i c rests.done rests.handled

  -- the piece of a region was handled
  all_filed : AreAllFiled (state_in p) p.setting.depth i c.filed
  all_filed r receives is =
      let sent = region_sent p valid r is in
      let e : Envelope RefreshMsg = sent_piece p.setting.grid sent.0.own sent.1 in
      let to : e.to ≡ i = ap (λ (x : Region). x.receiver) sent.3 ∙ receives in
      let there : Contains (inbox i (all_of (refresh_plan p) p.parts)) e.msg =
      subst (λ (n : ℕ). Contains (inbox n (all_of (refresh_plan p) p.parts)) e.msg) to (inbox-has e (all_of (refresh_plan p) p.parts) (sent_among p valid r.sender sent.0 sent.1 sent.2 sent.4)) in
      let filed : is_filed c.filed sent.1.region ≡ true = goes.filed (filled p.setting.grid sent.0.own sent.1) (rests.every.one_of e.msg there) in
      subst (λ (x : Region). is_filed c.filed x ≡ true) sent.3 filed

  done_samples : HoldsSamples (state_in p) c.block
  done_samples =
      let here = rests.handled.here in
      let leaf = own_leaf p valid i rests.handled.part c.block here goes.own in
      let filed : AreAllFiled (state_in p) c.block.depth i c.filed = subst (λ (d : ℕ). AreAllFiled (state_in p) d i c.filed) (sym (own_depth p valid i rests.handled.part c.block here goes.own)) all_filed in
      facts.all (state_in p) i c.filed c.block valid.state goes.limits leaf filed goes.holds

-- a cell that has started owes nothing
settled : (p : RefreshProblem) → IsRefreshProblem p → (i : ℕ) (c : LeafState) (done : List RefreshMsg) → HasHandled (refresh_plan p) p.parts i c done → c.started ≡ true → sent_pieces p.setting.grid (own_cells c.block) c.owed ≡ []
settled p valid i c done handled started =
    let stands = handled_goes p valid i c done handled in
    ap (sent_pieces p.setting.grid (own_cells c.block)) (stands.owed ∙ ap (λ (b : Bool). cond b [] (map (blank p.setting) handled.part.owes)) started)

pub rest_refreshed : (p : RefreshProblem) (cells : List LeafState) → RefreshHolds p cells [] → AreRefreshed p cells
rest_refreshed p cells holds i k c here there =
    let valid = holds.problem in
    let rests = at_rest_by (IsRefreshProblem p) (refresh_plan p) p.parts (λ v. is_plan p) (settled p valid) cells holds i c there in
    let same : rests.handled.part ≡ k = same_Some rests.handled.part k (sym rests.handled.here ∙ here) in
    ((goes p valid i c rests).own ∙ ap (λ (x : LeafPart). x.own) same, done_samples p valid i c rests)

-- and the blocks keep their limits
pub rest_limits : (p : RefreshProblem) (cells : List LeafState) → RefreshHolds p cells [] → (i : ℕ) (c : LeafState) → slice_get cells i ≡ Some c → IsBlock c.block
rest_limits p cells holds i c there =
    let rests = at_rest_by (IsRefreshProblem p) (refresh_plan p) p.parts (λ v. is_plan p) (settled p holds.problem) cells holds i c there in
    (goes p holds.problem i c rests).limits

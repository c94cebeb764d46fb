-- A cell after some of the messages to it.
use Rattle.std.proofs.Common.{◌≡◌, ℕ, Bool, true, false, cond, List, [], ◌∷◌, ◌++◌, Some, length, map, refl, sym, ap, ◌∙◌, subst, arith, ◌⊎◌, inl, inr}
use Rattle.std.specs.Prelude.{Contains, slice_get}
use Rattle.std.proofs.lemmas.Bool.{cases_Bool, false≢true}
use Rattle.std.proofs.lemmas.List.Elements.{Contains-append_cases}
use Rattle.std.proofs.lemmas.Option.{none-some}
use Rattle.phase_core.specs.Lemmas.Lookups.{Contains-get, Contains-at, Contains-cons_cases}
use Rattle.owed_phase.specs.Plans.{inbox, all_of}
use Rattle.owed_phase.specs.Rest.{IsAmong, HasHandled}
use Rattle.owed_phase.specs.Lemmas.Moves.{Contains-cons_more}
use Rattle.owed_phase.specs.Lemmas.States.{by_messages}
use Rattle.block_fields.specs.Blocks.{IsBlock}
use Rattle.ghost_pieces.specs.Filing.{Source, is_filed, source_of, with_filed, with_piece}
use Rattle.ghost_pieces.specs.Pieces.{PieceState, CarriesSamples, FitsSize}
use Rattle.ghost_pieces.specs.Regions.{Region, Member, Once}
use Rattle.ghost_pieces.specs.Shells.{HoldsFiled, IsSourceOf}
use Rattle.refresh_phase.specs.declared.refresh_msg.RefreshMsg.{RefreshMsg}
use Rattle.refresh_phase.specs.declared.refresh_msg.RefreshMsg.TheVariants.{Start, Piece}
use Rattle.refresh_phase.specs.Cells.{LeafPart, LeafState, RefreshProblem, blank, own_cells, kept, state_in}
use Rattle.refresh_phase.specs.React.{refresh_react}
use Rattle.refresh_phase.specs.Problem.{IsFresh, IsRefreshProblem, refresh_plan}
use Rattle.refresh_phase.specs.States.{IsRightMsg}
use Rattle.refresh_phase.specs.Lemmas.RefreshLaws.{own_cells-after_filing}
use Rattle.refresh_phase.proofs.GhostFacts.{facts}
use Rattle.refresh_phase.proofs.Messages.{deep, own_leaf, own_depth, own_fields, inbox_right}

-- What stands for the cell of part k at position i after these messages, the last first.
pub record Goes (p : RefreshProblem) (i : ℕ) (k : LeafPart) (c : LeafState) (done : List RefreshMsg) : Type 0 where
  pub own : own_cells c.block ≡ k.own
  pub owes : c.owes ≡ k.owes
  pub limits : IsBlock c.block
  pub holds : HoldsFiled (state_in p) i c.filed c.block
  pub once : Once c.filed
  pub sources : (s : Source) → Member c.filed s → IsSourceOf p.setting.grid p.setting.edge p.setting.depth (state_in p).leaves i s
  pub filed : (q : PieceState) → Contains done (Piece q) → is_filed c.filed q.region ≡ true
  pub only : (r : Region) → is_filed c.filed r ≡ true → (q : PieceState) × Contains done (Piece q) × (source_of q.region ≡ source_of r)
  pub owed : c.owed ≡ cond c.started [] (map (blank p.setting) k.owes)

not_start : (q : PieceState) → Start ≡ Piece q → ⊥
not_start q e = cc

same_piece : (q x : PieceState) → Piece q ≡ Piece x → q ≡ x
same_piece q x e = cc

-- a source that is filed was filed before, or is the new one
with_filed-cases : (filed : List Source) (r : Region) (k : Source) → Member (with_filed filed r) k → Member filed k ⊎ (source_of r ≡ k)
with_filed-cases filed r k m = elim (cases_Bool (is_filed filed r)) [
  | inl is ↦ inl (subst (λ (b : Bool). Member (cond b filed (filed ++ source_of r ∷ [])) k) is m)
  | inr not ↦
      let there : Member (filed ++ source_of r ∷ []) k = subst (λ (b : Bool). Member (cond b filed (filed ++ source_of r ∷ [])) k) not m in
      elim (Contains-append_cases filed (source_of r ∷ []) k (Contains-at (filed ++ source_of r ∷ []) there.0 k there.1)) [
        | inl old ↦ inl (Contains-get filed k old)
        | inr new ↦ elim (Contains-cons_cases (source_of r) [] k new) [
          | inl same ↦ inr same
          | inr none ↦ absurd (omega (arith, none.1))
        ]
      ]
]

module _ (p : RefreshProblem) (valid : IsRefreshProblem p) (i : ℕ) where
  goes-fresh : (k : LeafPart) (c : LeafState) → IsFresh p.setting c → kept c ≡ k → Goes p i k c []
  goes-fresh k c fresh is =
      let owes : c.owes ≡ k.owes = ap (λ (x : LeafPart). x.owes) is in
      record {
        own = ap (λ (x : LeafPart). x.own) is;
        owes = owes;
        limits = fresh.limits;
        holds = subst (λ (filed : List Source). HoldsFiled (state_in p) i filed c.block) (sym fresh.filed) (facts.none (state_in p) i c.block);
        once = subst (λ (filed : List Source). Once filed) (sym fresh.filed) (λ a b x h j. absurd (none-some x h));
        sources = λ s m. absurd (none-some s (subst (λ (filed : List Source). slice_get filed m.0 ≡ Some s) fresh.filed m.1));
        filed = λ q h. absurd (omega (arith, h.1));
        only = λ r h. absurd (false≢true (sym (facts.unfiled r) ∙ (ap (λ (filed : List Source). is_filed filed r) (sym fresh.filed) ∙ h)));
        owed = fresh.owed ∙ (ap (λ (l : List PieceState). map (blank p.setting) l) owes ∙ ap (λ (b : Bool). cond b [] (map (blank p.setting) k.owes)) (sym fresh.started));
      }

  goes-start : (k : LeafPart) (c : LeafState) (done : List RefreshMsg) → Goes p i k c done → Goes p i k (refresh_react p i c Start).cell (Start ∷ done)
  goes-start k c done goes = record {
    own = goes.own;
    owes = goes.owes;
    limits = goes.limits;
    holds = goes.holds;
    once = goes.once;
    sources = goes.sources;
    filed = λ q h. elim (Contains-cons_cases Start done (Piece q) h) [ inl same ↦ absurd (not_start q same) | inr later ↦ goes.filed q later ];
    only = λ r h. let o = goes.only r h in (o.0, Contains-cons_more Start done (Piece o.0) o.1, o.2);
    owed = refl;
  }

  -- a piece that is right can be filed
  pub piece_fits : (k : LeafPart) (c : LeafState) (q : PieceState) → slice_get p.parts i ≡ Some k → own_cells c.block ≡ k.own → CarriesSamples (state_in p) p.setting.depth q → FitsSize c.block.edge c.block.depth (length c.block.amounts) q
  piece_fits k c q here own carries =
      let fits : FitsSize p.setting.edge p.setting.depth p.setting.fields q = facts.carried (state_in p) p.setting.depth q valid.state valid.even (deep p valid) carries in
      let leaf = own_leaf p valid i k c.block here own in
      subst (λ (n : ℕ). FitsSize n c.block.depth (length c.block.amounts) q) (sym leaf.same_edge)
      (subst (λ (d : ℕ). FitsSize p.setting.edge d (length c.block.amounts) q) (sym (own_depth p valid i k c.block here own))
      (subst (λ (m : ℕ). FitsSize p.setting.edge p.setting.depth m q) (sym (own_fields p valid i k c.block here own)) fits))

  goes-piece : (k : LeafPart) (c : LeafState) (done : List RefreshMsg) (q : PieceState) → slice_get p.parts i ≡ Some k → IsRightMsg p i (Piece q) → Goes p i k c done → Goes p i k (refresh_react p i c (Piece q)).cell (Piece q ∷ done)
  goes-piece k c done q here right goes =
      let carries : CarriesSamples (state_in p) p.setting.depth q = right.2 in
      let leaf = own_leaf p valid i k c.block here goes.own in
      let there : CarriesSamples (state_in p) c.block.depth q = subst (λ (d : ℕ). CarriesSamples (state_in p) d q) (sym (own_depth p valid i k c.block here goes.own)) carries in
      record {
        own = own_cells-after_filing c.filed q c.block ∙ goes.own;
        owes = goes.owes;
        limits = limits (is_filed c.filed q.region) (facts.limits c.block q goes.limits (piece_fits k c q here goes.own carries) (facts.direction p.setting.grid p.setting.edge p.setting.depth (state_in p).leaves q.region carries.region));
        holds = facts.more (state_in p) i c.filed c.block q valid.state goes.limits leaf right.0 there goes.holds;
        once = facts.once c.filed q.region goes.once;
        sources = λ s m. elim (with_filed-cases c.filed q.region s m) [
          | inl old ↦ goes.sources s old
          | inr new ↦ (q.region, right.0, carries.region, new)
        ];
        filed = λ x h. elim (Contains-cons_cases (Piece q) done (Piece x) h) [
          | inl same ↦ subst (λ (y : PieceState). is_filed (with_filed c.filed q.region) y.region ≡ true) (same_piece q x same) (facts.this c.filed q.region)
          | inr later ↦ facts.kept c.filed q.region x.region (goes.filed x later)
        ];
        only = λ r h. elim (facts.others c.filed q.region r h) [
          | inl old ↦ let o = goes.only r old in (o.0, Contains-cons_more (Piece q) done (Piece o.0) o.1, o.2)
          | inr new ↦ (q, Contains-at (Piece q ∷ done) 0 (Piece q) refl, sym new)
        ];
        owed = goes.owed;
      }
    where
      limits : (b : Bool) → IsBlock (with_piece c.block q) → IsBlock (cond b c.block (with_piece c.block q))
      limits true new = goes.limits
      limits false new = new

  -- each cell after what it has handled
  pub handled_goes : (c : LeafState) (done : List RefreshMsg) (handled : HasHandled (refresh_plan p) p.parts i c done) → Goes p i handled.part c done
  handled_goes c done handled = by_messages (refresh_plan p) p.parts (Goes p i) i c done (λ k first here fresh is. goes-fresh k first fresh is) step handled
    where
      step : (k : LeafPart) (now : LeafState) (m : RefreshMsg) (before : List RefreshMsg) → slice_get p.parts i ≡ Some k → IsAmong (m ∷ before) (inbox i (all_of (refresh_plan p) p.parts)) → Goes p i k now before → Goes p i k (refresh_react p i now m).cell (m ∷ before)
      step k now Start before here among goes = goes-start k now before goes
      step k now (Piece q) before here among goes =
          goes-piece k now before q here (inbox_right p valid i (Piece q) (among.one_of (Piece q) (Contains-at (Piece q ∷ before) 0 (Piece q) refl))) goes

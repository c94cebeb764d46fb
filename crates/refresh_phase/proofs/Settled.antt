-- The blocks of a phase at rest.
use Rattle.std.proofs.Common.{◌≡◌, ℕ, List, [], Some, map, sym, ap, ◌∙◌, subst, arith}
use Rattle.std.specs.Prelude.{slice_get}
use Rattle.std.proofs.lemmas.List.{length-map}
use Rattle.std.proofs.lemmas.Option.{slice_get_within}
use Rattle.phase_core.specs.Lemmas.Lookups.{get-map_back}
use Rattle.phase_core.specs.Lemmas.ListsByPlaces.{same_list}
use Rattle.owed_phase.specs.Lemmas.Moves.{get-some}
use Rattle.block_fields.specs.Blocks.{BlockState}
use Rattle.block_fields.specs.BlockStates.{AreBlocksOf, HoldsSamples, IsBlockOf}
use Rattle.refresh_phase.specs.Cells.{LeafPart, LeafState, RefreshProblem, own_cells, state_in}
use Rattle.refresh_phase.specs.Problem.{RefreshHolds}
use Rattle.refresh_phase.proofs.Beginning.{map-twice}
use Rattle.refresh_phase.proofs.Messages.{own_leaf, own_depth, own_fields}
use Rattle.refresh_phase.proofs.Rest.{rest_refreshed, rest_limits}

module _ (p : RefreshProblem) (cells : List LeafState) (holds : RefreshHolds p cells []) where
  abbrev blocks : List BlockState
  blocks = map (λ (c : LeafState). c.block) cells

  part_at : (i : ℕ) (c : LeafState) → slice_get cells i ≡ Some c → (k : LeafPart) × (slice_get p.parts i ≡ Some k)
  part_at i c here = get-some p.parts i (omega (arith, slice_get_within cells i c here, holds.owing.many))

  pub settled-amounts : map own_cells blocks ≡ map (λ (k : LeafPart). k.own) p.parts
  settled-amounts = same_list (map own_cells blocks) (map (λ (k : LeafPart). k.own) p.parts)
      (length-map blocks own_cells ∙ (length-map cells (λ (c : LeafState). c.block) ∙ (holds.owing.many ∙ sym (length-map p.parts (λ (k : LeafPart). k.own)))))
      (λ i x y here there.
      let b = get-map_back own_cells blocks i x here in
      let c = get-map_back (λ (c : LeafState). c.block) cells i b.0 b.1 in
      let k = get-map_back (λ (k : LeafPart). k.own) p.parts i y there in
      sym b.2 ∙ (ap own_cells (sym c.2) ∙ ((rest_refreshed p cells holds i k.0 c.0 k.1 c.1).0 ∙ k.2)))

  pub settled-samples : (i : ℕ) (b : BlockState) → slice_get blocks i ≡ Some b → HoldsSamples (state_in p) b
  settled-samples i b here =
      let c = get-map_back (λ (c : LeafState). c.block) cells i b here in
      let k = part_at i c.0 c.1 in
      subst (λ (x : BlockState). HoldsSamples (state_in p) x) c.2 (rest_refreshed p cells holds i k.0 c.0 k.1 c.1).1

  pub settled-sizes : AreBlocksOf (state_in p).leaves p.setting.edge p.setting.fields p.setting.depth blocks
  settled-sizes = record {
    places = sym (map-twice own_cells (λ (b : BlockState). b.place) blocks) ∙ ap (map (λ (b : BlockState). b.place)) settled-amounts;
    each = each;
  }
    where
      each : (i : ℕ) (b : BlockState) → slice_get blocks i ≡ Some b → IsBlockOf p.setting.edge p.setting.fields p.setting.depth b
      each i b here =
          let c = get-map_back (λ (c : LeafState). c.block) cells i b here in
          let k = part_at i c.0 c.1 in
          let own : own_cells c.0.block ≡ k.0.own = (rest_refreshed p cells holds i k.0 c.0 k.1 c.1).0 in
          subst (IsBlockOf p.setting.edge p.setting.fields p.setting.depth) c.2 (record {
            limits = rest_limits p cells holds i c.0 c.1;
            same_edge = (own_leaf p holds.problem i k.0 c.0.block k.1 own).same_edge;
            same_fields = own_fields p holds.problem i k.0 c.0.block k.1 own;
            same_depth = own_depth p holds.problem i k.0 c.0.block k.1 own;
          })

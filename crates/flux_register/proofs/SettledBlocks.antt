-- The blocks of a phase at rest.
use Rattle.std.proofs.Common.{◌≡◌, ℕ, List, [], Some, map, refl, sym, ap, ◌∙◌, subst}
use Rattle.std.specs.Prelude.{slice_get}
use Rattle.std.proofs.lemmas.List.{length-map}
use Rattle.std.proofs.lemmas.Option.{same_Some}
use Rattle.phase_core.specs.Lemmas.Lookups.{get-map_back}
use Rattle.phase_core.specs.Lemmas.ListsByPlaces.{same_list}
use Rattle.block_fields.specs.Blocks.{BlockState}
use Rattle.block_fields.specs.BlockStates.{IsBlockOf}
use Rattle.flux_register.specs.Cells.{FluxPart, FluxState, FluxProblem, unadvanced}
use Rattle.flux_register.specs.Problem.{FluxFixHolds}
use Rattle.flux_register.proofs.Rest.{rest_at, rest_goes}

module _ (p : FluxProblem) (cells : List FluxState) (holds : FluxFixHolds p cells []) where
  abbrev blocks : List BlockState
  blocks = map (λ (c : FluxState). c.block) cells

  pub settled-before : map unadvanced blocks ≡ map (λ (k : FluxPart). k.before) p.parts
  settled-before = same_list (map unadvanced blocks) (map (λ (k : FluxPart). k.before) p.parts)
      (length-map blocks unadvanced ∙ (length-map cells (λ (c : FluxState). c.block) ∙ (holds.owing.many ∙ sym (length-map p.parts (λ (k : FluxPart). k.before)))))
      (λ i x y here there.
      let b = get-map_back unadvanced blocks i x here in
      let c = get-map_back (λ (c : FluxState). c.block) cells i b.0 b.1 in
      let k = get-map_back (λ (k : FluxPart). k.before) p.parts i y there in
      let r = rest_at p cells holds i c.0 c.1 in
      let g = rest_goes p cells holds i c.0 c.1 in
      let same : r.handled.part ≡ k.0 = same_Some r.handled.part k.0 (sym r.handled.here ∙ k.1) in
      sym b.2 ∙ (ap unadvanced (sym c.2) ∙ (ap (λ (t : FluxPart). t.before) (g.part ∙ same) ∙ k.2)))

  pub settled-sizes : (i : ℕ) (b : BlockState) → slice_get blocks i ≡ Some b → IsBlockOf p.setting.edge p.setting.fields b.depth b
  settled-sizes i b here =
      let c = get-map_back (λ (c : FluxState). c.block) cells i b here in
      let r = rest_at p cells holds i c.0 c.1 in
      let g = rest_goes p cells holds i c.0 c.1 in
      subst (λ (x : BlockState). IsBlockOf p.setting.edge p.setting.fields x.depth x) c.2 (record {
        limits = g.limits;
        same_edge = ap (λ (t : FluxPart). t.before.edge) g.part ∙ (holds.problem.leaves i r.handled.part r.handled.here).same_edge;
        same_fields = g.fields;
        same_depth = refl;
      })

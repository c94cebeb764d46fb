-- What flows out of the domain, as a sum over the cells of a phase at rest.
use Rattle.std.proofs.Common.{◌≡◌, ℕ, ◌+◌, ◌^◌, ◌<◌, ◌≤◌, List, [], Some, length, sym, ap, ◌∙◌, subst, arith, sum_by}
use Rattle.std.specs.Prelude.{get_or, slice_get, slice_index, take}
use Rattle.std.proofs.lemmas.List.Sums.{sum_by_more, sum_by_more_le}
use Rattle.std.proofs.lemmas.Option.{same_Some, slice_get-get_or}
use Rattle.block_index.specs.Places.{Cube, Grid}
use Rattle.block_fields.specs.Cells.{cells_of}
use Rattle.block_fields.specs.States.{State, total}
use Rattle.block_fields.proofs.Sums.{sum-flat_map, sum-pairs}
use Rattle.grid_fluxes.specs.BoundaryFlows.{out, out_of}
use Rattle.grid_fluxes.specs.Fluxes.{Fluxes, finer_across}
use Rattle.grid_fluxes.proofs.Advancing.{out-most}
use Rattle.flux_register.specs.Cells.{FluxPart, FluxProblem, FluxState, state_in}
use Rattle.flux_register.specs.Made.{IsMadeBy}
use Rattle.flux_register.specs.Problem.{FluxFixHolds}
use Rattle.flux_register.specs.Lemmas.Outward.{Adds, HasRoom, out_of_cells, out_of_leaf}
use Rattle.flux_register.proofs.Messages.{leaves_long, part_place}
use Rattle.flux_register.proofs.OuterLeaves.{sum-leaf}
use Rattle.flux_register.proofs.Rest.{rest_at, rest_goes}

module _ (p : FluxProblem) (cells : List FluxState) (holds : FluxFixHolds p cells []) where
  abbrev s : State
  s = state_in p

  pub cell-fields : (i : ℕ) (x : FluxState) → slice_get cells i ≡ Some x → x.faces.fields ≡ p.setting.fields
  cell-fields i x here =
      let r = rest_at p cells holds i x here in
      let g = rest_goes p cells holds i x here in
      ap (λ (t : FluxPart). t.faces.fields) g.part ∙ (holds.problem.leaves i r.handled.part r.handled.here).faces_fields

  pub out-cells : (fluxes : Fluxes) (f : ℕ) → IsMadeBy p fluxes → f < p.setting.fields → out (state_in p) fluxes f ≡ out_of_cells p.setting.grid cells f
  out-cells fluxes f made hf =
      sum-flat_map (out_of s fluxes f) (cells_of p.setting.edge) s.leaves
      ∙ sum-pairs (λ (b : Cube). sum_by (out_of s fluxes f) (cells_of p.setting.edge b)) (λ (x : FluxState). out_of_leaf p.setting.grid x.block.place x.faces f) s.leaves cells
      (leaves_long p ∙ sym holds.owing.many)
      (λ i place x here there.
      let r = rest_at p cells holds i x there in
      let g = rest_goes p cells holds i x there in
      let k : FluxPart = r.handled.part in
      let leaf = holds.problem.leaves i k r.handled.here in
      let at = part_place p i k r.handled.here in
      ap (λ (b : Cube). sum_by (out_of s fluxes f) (cells_of p.setting.edge b)) (same_Some place k.before.place (sym here ∙ at))
      ∙ sum-leaf s holds.problem.state fluxes k.before k.faces i at leaf.same_edge leaf.faces leaf.faces_edge leaf.faces_fields (made.each i k r.handled.here) f hf
      ∙ ap (λ (t : FluxPart). out_of_leaf p.setting.grid t.before.place t.faces f) (sym g.part))

  module _ (few : (f : ℕ) → f < p.setting.fields → total (state_in p) f ≤ 2 ^ 40) where
    pub cells-few : (f : ℕ) → f < p.setting.fields → out_of_cells p.setting.grid cells f ≤ 2 ^ 40
    cells-few f hf =
        let made = holds.problem.made in
        let fluxes = holds.problem.fluxes in
        let most = out-most s holds.problem.state fluxes f hf (made.replaces.gives (finer_across s) f hf (record { below = λ a c h. h; above = λ a c h. h })) in
        let all = few f hf in
        let sum = out-cells fluxes f made hf in
        omega (arith, most, all, sum)

    -- a walk over the cells: one more of them
    module _ (grid : Grid) (same : grid ≡ p.setting.grid) (i : ℕ) (x : FluxState) (within : i < length cells) (is : x ≡ get_or cells i x) (old : List ℕ)
        (before : (f : ℕ) → f < p.setting.fields → slice_index old f ≡ out_of_cells grid (take i cells) f) where
      here : slice_get cells i ≡ Some x
      here = slice_get-get_or cells i x within ∙ ap Some (sym is)

      pub room-next : HasRoom x.faces.fields (out_of_leaf grid x.block.place x.faces) old
      room-next f h =
          let known : f < p.setting.fields = subst (λ (n : ℕ). f < n) (cell-fields i x here) h in
          let g : FluxState → ℕ = λ y. out_of_leaf grid y.block.place y.faces f in
          let so_far = before f known in
          let next : g (get_or cells i x) ≡ out_of_leaf grid x.block.place x.faces f = ap g (sym is) in
          let within_all = sum_by_more_le g cells i x within in
          let all : out_of_cells grid cells f ≤ 2 ^ 40 = subst (λ (d : Grid). out_of_cells d cells f ≤ 2 ^ 40) (sym same) (cells-few f known) in
          omega (arith, so_far, next, within_all, all)

      module _ (new : List ℕ) (added : Adds x.faces.fields (out_of_leaf grid x.block.place x.faces) old new) where
        pub sums-next : (f : ℕ) → f < p.setting.fields → slice_index new f ≡ out_of_cells grid (take (i + 1) cells) f
        sums-next f known =
            let g : FluxState → ℕ = λ y. out_of_leaf grid y.block.place y.faces f in
            let h : f < x.faces.fields = subst (λ (n : ℕ). f < n) (sym (cell-fields i x here)) known in
            let so_far = before f known in
            let next : g (get_or cells i x) ≡ out_of_leaf grid x.block.place x.faces f = ap g (sym is) in
            let more = sum_by_more g cells i x within in
            let adds = added.each f h in
            omega (arith, so_far, next, more, adds)

        pub none-next : (f : ℕ) → p.setting.fields ≤ f → slice_index old f ≡ 0 → slice_index new f ≡ 0
        none-next f past none = added.rest f (subst (λ (n : ℕ). n ≤ f) (sym (cell-fields i x here)) past) ∙ none

use Rattle.std.proofs.Common.{◌≡◌, ℕ, ◌*◌, ◌/◌, ◌<◌, List, [], Some, length, map, slice_get, slice_index_or, get_or, set, ap, ◌∙◌, sym, subst, arith, inl, inr, Vec, Global}
use Rattle.std.specs.List.{range_with_len}
use Rattle.std.specs.Vec.{with_items}
use Rattle.std.proofs.lemmas.Bool.{cases_eq}
use Rattle.std.proofs.lemmas.List.{get_or-set_same, get_or-set_other, length-set, with_items_is, length-map, ext_get_or}
use Rattle.std.proofs.lemmas.List.FromFn.{get_or-map-range_with_len, length-range_with_len}
use Rattle.block_fields.proofs.Fields.{HaveLength-set, field-at, field-set}
use Rattle.advect.specs.FaceFluxes.{fluxes_on}
use Rattle.advect.specs.FluxPieces.{sums_of_four}
use Rattle.advect.proofs.Insides.{elements}
use Rattle.advect.proofs.Limits.{sums-length}
use Rattle.advect.proofs.reducing.sum_up.Goals as goal

pub reduce_field-requires-clause-sums : goal.reduce_field-requires-clause-sums
reduce_field-requires-clause-sums c =
    let f = c.loop-field.field in
    let there : f < length (elements c.loop-field.sums.items) = omega (arith, c.loop-field.invariant.long, c.loop-field-test.true, c.fields-field-end.ensures.fields) in
    ap length c.as_mut_slice.ensures.value
    ∙ c.loop-field.invariant.sizes f c.index_mut.result.now.items (field-at (Vec ℕ Global) (λ v. v.items) c.loop-field.sums.items f c.index_mut.result.now c.index_mut.ensures.value there)

pub loop-field-preserved : goal.loop-field-preserved
loop-field-preserved c =
    let f = c.loop-field.field in
    let n = c.edge-n.result in
    let all = c.loop-field.sums.items in
    let v = c.index_mut.result.now in
    let ws = c.reduce_field.new.sums in
    let there : f < length (elements all) = omega (arith, c.loop-field.invariant.long, c.loop-field-test.true, c.fields-field-end.ensures.fields) in
    let vec : (with_items v ws).items ≡ ws = with_items_is v ws (c.reduce_field.auto.sums ∙ c.as_mut_slice.ensures.len) in
    let e : elements (set all f (with_items v ws)) ≡ set (elements all) f ws = field-set (Vec ℕ Global) (λ v. v.items) all f (with_items v ws) ws vec in
    let size : length ws ≡ n / 2 * (n / 2) = ap length c.reduce_field.ensures.sums ∙ sums-length n c.on_side-fluxes.result.now in
    record {
      long = ap length e ∙ length-set (elements all) f ws ∙ c.loop-field.invariant.long;
      sizes = λ g q at. HaveLength-set (n / 2 * (n / 2)) (elements all) f ws c.loop-field.invariant.sizes size g q (subst (λ (l : List (List ℕ)). slice_get l g ≡ Some q) e at);
      written = λ g h.
          ap (λ (l : List (List ℕ)). slice_index_or l g []) e
          ∙ elim (cases_eq g f) as (λ t. get_or (set (elements all) f ws) g [] ≡ sums_of_four n (fluxes_on c.args.faces.now g c.args.d)) [
            | inl same ↦
                ap (λ g. get_or (set (elements all) f ws) g []) same ∙ get_or-set_same (elements all) f ws [] there ∙ c.reduce_field.ensures.sums ∙ ap (sums_of_four n) c.on_side-fluxes.ensures.fluxes
                ∙ ap (λ g. sums_of_four n (fluxes_on c.args.faces.now g c.args.d)) (sym same)
            | inr other ↦ get_or-set_other (elements all) f g ws [] other ∙ c.loop-field.invariant.written g (omega (arith, h, other))
          ];
    }

pub returns : goal.returns
returns c =
    let s = c.args.faces.now in
    let now = elements c.loop-field.sums.items in
    let g : ℕ → List ℕ = λ f. sums_of_four s.edge (fluxes_on s f c.args.d) in
    let want = map g (range_with_len 0 s.fields) in
    let l : length want ≡ s.fields = length-map (range_with_len 0 s.fields) g ∙ length-range_with_len 0 s.fields in
    record {
      limits = c.edge-n.ensures.limits;
      sums = ext_get_or [] now want (c.loop-field.invariant.long ∙ sym l) (λ f h.
          let k : f < s.fields = omega (arith, h, c.loop-field.invariant.long) in
          c.loop-field.invariant.written f (omega (arith, k, c.loop-field-test.false, c.fields-field-end.ensures.fields))
          ∙ ap (λ n. sums_of_four n (fluxes_on s f c.args.d)) c.edge-n.ensures.edge
          ∙ sym (get_or-map-range_with_len g 0 s.fields f f [] k (omega arith)));
    }

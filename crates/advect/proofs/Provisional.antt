-- A block advanced by its own fluxes.
use Rattle.std.proofs.Common.{◌≡◌, ℕ, zero, suc, ◌+◌, ◌-◌, ◌*◌, ◌/◌, ◌%◌, ◌^◌, ◌<◌, ◌≤◌, cond, List, [], Some, length, slice_get, slice_index, slice_index_or, get_or, arith, ap, sym, ◌∙◌, subst, refl, inl, inr, mod-lt, ℤ, pos, negsuc}
use Rattle.std.proofs.lemmas.Bool.{cases_lt}
use Rattle.std.proofs.lemmas.List.{ext_get_or, get_or_past}
use Rattle.std.proofs.lemmas.Nat.{div-add-mod'}
use Rattle.std.proofs.lemmas.Option.{slice_get_within, get_or_from_slice_get, slice_get-get_or}
use Rattle.block_index.specs.Places.{Grid}
use Rattle.block_fields.specs.Blocks.{BlockState, IsBlock}
use Rattle.grid_fluxes.specs.Axes.{Axis, along_x, along_y, along_z}
use Rattle.grid_fluxes.specs.Upwind.{Flow}
use Rattle.advect.specs.Coordinates.{face_number}
use Rattle.advect.specs.FaceFluxes.{AreFluxes, FaceFluxState, HoldsFluxes, IsFaceFluxes, face_fluxes, greatest_flux}
use Rattle.advect.specs.Flows.{axis_number, axis_numbered}
use Rattle.advect.specs.OwnFluxes.{HoldsAtMost, IsProvisional, own_flux}
use Rattle.advect.specs.declared.stream.Streams.{Streams}
use Rattle.advect.specs.Lemmas.Advances.{AdvancesFields, NotesFields, field_in}
use Rattle.advect.specs.Lemmas.Streams.{enters, goes, stream_flux, stream_on}
use Rattle.advect.proofs.Advanced.{seen-field, small-list}
use Rattle.advect.proofs.Beside.{quotient-below}
use Rattle.advect.proofs.Links.{IsStream, own-stream}
use Rattle.advect.proofs.Steps.{flux-small}

module _ (flow : Flow) (grid : Grid) (b : BlockState) (k : IsBlock b) (streams : Streams) (is : (a : Axis) → IsStream flow grid b a (stream_on streams a)) where
  some : 0 < b.edge
  some = let l = k.least in omega arith

  same-flux : (f : ℕ) (a : Axis) (u i j : ℕ) → stream_flux (stream_on streams a) (field_in b f) a u i j ≡ own_flux flow grid b f a u i j
  same-flux f a u i j = own-stream flow grid b a (stream_on streams a) (is a) some f u i j

  same-goes : (f : ℕ) (a : Axis) (u i j : ℕ) → goes (stream_on streams a) (field_in b f) a u i j ≡ cond (flow.goes_up a) (own_flux flow grid b f a (u + 1) i j) (own_flux flow grid b f a u i j)
  same-goes f a u i j = λ t. cond ((is a).way t) (same-flux f a (u + 1) i j t) (same-flux f a u i j t)

  same-enters : (f : ℕ) (a : Axis) (u i j : ℕ) → enters (stream_on streams a) (field_in b f) a u i j ≡ cond (flow.goes_up a) (own_flux flow grid b f a u i j) (own_flux flow grid b f a (u + 1) i j)
  same-enters f a u i j = λ t. cond ((is a).way t) (same-flux f a u i j t) (same-flux f a (u + 1) i j t)

  pub provisional-is : (new : BlockState) → AdvancesFields streams (length b.amounts) b new → IsProvisional (own_flux flow grid b) flow.goes_up b new
  provisional-is new w = record {
    place = w.place;
    edge = w.edge;
    depth = w.depth;
    ghosts = w.ghosts;
    before = let one = k.one_before_each in ext_get_or [] new.before b.amounts (w.before_fields ∙ one) (λ g h. w.before g (let e = w.before_fields in omega (arith, h, e, one)));
    fields = w.fields;
    amounts = λ f x y z hf hx hy hz.
        w.moved f x y z hf hx hy hz
        ∙ (λ t. slice_index (get_or b.amounts f []) ((z * b.edge + y) * b.edge + x)
        - (same-goes f along_x x y z t + same-goes f along_y y x z t + same-goes f along_z z x y t)
        + (same-enters f along_x x y z t + same-enters f along_y y x z t + same-enters f along_z z x y t));
  }

  -- fluxes of the lists are small
  module _ (small : HoldsAtMost (2 ^ 42) b) where
    stream-small : (f : ℕ) → f < length b.amounts → (a : Axis) (u i j : ℕ) → u ≤ b.edge → i < b.edge → j < b.edge → stream_flux (stream_on streams a) (field_in b f) a u i j ≤ 2 ^ 42
    stream-small f hf a u i j hu hi hj =
        flux-small (stream_on streams a) (field_in b f) a i j hi hj
        (small-list b f 0 (2 ^ 42) (get_or b.amounts f []) some refl (k.all_cells f (get_or b.amounts f []) (slice_get-get_or b.amounts f [] hf)) (λ x y z hx hy hz. small.amounts f x y z hf hx hy hz))
        (subst (λ t. t ≤ 2 ^ 42) (sym (seen-field b f a (negsuc 0) i j)) (small.below f a i j hf hi hj))
        (subst (λ t. t ≤ 2 ^ 42) (sym (seen-field b f a (pos b.edge) i j)) (small.above f a i j hf hi hj)) u hu

    pub lists-small : (u : ℕ) → u ≤ b.edge → (old new : List (List ℕ)) → length old ≡ 3 * length b.amounts →
        NotesFields b.edge (length b.amounts) (λ f a. stream_flux (stream_on streams a) (field_in b f) a u) old new → (t : ℕ) (q : List ℕ) → slice_get new t ≡ Some q → AreFluxes b.edge q
    lists-small u hu old new long w t q at =
        let size = w.sizes t q at in
        let ht : t < 3 * length b.amounts = let l = w.long in let h = slice_get_within new t q at in omega (arith, l, h, long) in (
          size,
          λ e.
              elim (cases_lt e (b.edge * b.edge)) [
                | inl less ↦
                    let f = t / 3 in
                    let hf : f < length b.amounts = omega (arith, ht) in
                    let i = e % b.edge in
                    let j = e / b.edge in
                    let hi : i < b.edge = mod-lt e some in
                    let hj : j < b.edge = quotient-below e b.edge b.edge some less in
                    let number : face_number b.edge i j ≡ e = div-add-mod' e b.edge in
                    let which : 3 * f + axis_number (axis_numbered (t % 3)) ≡ t = ap (λ r. 3 * f + r) (numbered (t % 3) (omega arith)) ∙ (let d : 3 * f + t % 3 ≡ t = omega arith in d) in
                    let value = w.here f (axis_numbered (t % 3)) i j hf hi hj in
                    let read : slice_index_or new t [] ≡ q = get_or_from_slice_get new t q [] at in
                    subst (λ (l : List ℕ). slice_index l e ≤ greatest_flux) read
                    (subst (λ t. slice_index (slice_index_or new t []) e ≤ greatest_flux) which
                    (subst (λ e. slice_index (slice_index_or new (3 * f + axis_number (axis_numbered (t % 3))) []) e ≤ greatest_flux) number
                    (subst (λ v. v ≤ greatest_flux) (sym value) (stream-small f hf (axis_numbered (t % 3)) u i j hu hi hj))))
                | inr past ↦ let z : slice_index q e ≡ 0 = get_or_past q e 0 (omega (arith, size, past)) in omega (arith, z)
              ],
        )
      where
        numbered : (r : ℕ) → r < 3 → axis_number (axis_numbered r) ≡ r
        numbered zero h = refl
        numbered (suc zero) h = refl
        numbered (suc (suc zero)) h = refl
        numbered (suc (suc (suc r))) h = absurd (omega (arith, h))

    -- face fluxes with these lists keep their limits
    pub keeps-limits : (s : FaceFluxState) → IsFaceFluxes s → s.edge ≡ b.edge → s.fields ≡ length b.amounts → (velocity : List ℤ) → length velocity ≡ 3 → (den : ℕ) (low high : List (List ℕ)) →
        NotesFields b.edge (length b.amounts) (λ f a. stream_flux (stream_on streams a) (field_in b f) a 0) s.low low →
        NotesFields b.edge (length b.amounts) (λ f a. stream_flux (stream_on streams a) (field_in b f) a b.edge) s.high high →
        IsFaceFluxes (face_fluxes s.edge s.fields velocity den low high)
    keeps-limits s w ee ef velocity three den low high l h = record {
      even = w.even;
      least = w.least;
      most = w.most;
      few = w.few;
      three = three;
      all_low = l.long ∙ w.all_low;
      all_high = h.long ∙ w.all_high;
      each_low = λ t q at. subst (λ n. AreFluxes n q) (sym ee) (lists-small 0 (omega arith) s.low low (w.all_low ∙ ap (λ n. 3 * n) ef) l t q at);
      each_high = λ t q at. subst (λ n. AreFluxes n q) (sym ee) (lists-small b.edge (omega arith) s.high high (w.all_high ∙ ap (λ n. 3 * n) ef) h t q at);
    }

  -- and hold the block's own fluxes
  pub holds-fluxes : (edge fields : ℕ) → edge ≡ b.edge → fields ≡ length b.amounts → (velocity : List ℤ) (den : ℕ) (old_low old_high low high : List (List ℕ)) →
      NotesFields b.edge (length b.amounts) (λ f a. stream_flux (stream_on streams a) (field_in b f) a 0) old_low low →
      NotesFields b.edge (length b.amounts) (λ f a. stream_flux (stream_on streams a) (field_in b f) a b.edge) old_high high →
      HoldsFluxes (own_flux flow grid b) (face_fluxes edge fields velocity den low high)
  holds-fluxes edge fields ee ef velocity den old_low old_high low high l h = record {
    low = λ f a i j hf hi hj.
        ap (λ n. slice_index (slice_index_or low (3 * f + axis_number a) []) (face_number n i j)) ee
        ∙ l.here f a i j (subst (λ n. f < n) ef hf) (subst (λ n. i < n) ee hi) (subst (λ n. j < n) ee hj) ∙ same-flux f a 0 i j;
    high = λ f a i j hf hi hj.
        ap (λ n. slice_index (slice_index_or high (3 * f + axis_number a) []) (face_number n i j)) ee
        ∙ h.here f a i j (subst (λ n. f < n) ef hf) (subst (λ n. i < n) ee hi) (subst (λ n. j < n) ee hj) ∙ same-flux f a b.edge i j
        ∙ ap (λ n. own_flux flow grid b f a n i j) (sym ee);
  }

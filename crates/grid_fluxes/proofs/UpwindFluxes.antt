-- The upwind flux: it carries shares, is at most what its upwind cell holds, and brings nothing in.
use Rattle.std.proofs.Common.{◌≡◌, ℕ, ◌+◌, ◌*◌, ◌^◌, ◌<◌, ◌≤◌, Bool, true, false, cond, refl, ap, ◌∙◌, arith, mul-le-mul_right}
use Rattle.std.proofs.Math.Nat.{div-mul-le_self, le_of_mul-le-mul_right, le_trans, pow-le-pow_right}
use Rattle.std.proofs.lemmas.Nat.{mul-le}
use Rattle.std.proofs.lemmas.Bool.{cond-true, cond-false, cond_both}
use Rattle.cello_num.specs.Fluxes.{flux}
use Rattle.block_index.specs.Places.{Cube}
use Rattle.block_fields.specs.Cells.{cells}
use Rattle.block_fields.proofs.Sums.{sum-zero}
use Rattle.block_fields.specs.States.{State, IsState, total}
use Rattle.block_fields.specs.Samples.{sample}
use Rattle.grid_fluxes.specs.Axes.{Axis, along_x, along_y, along_z, next_cell, previous_cell, is_outside}
use Rattle.grid_fluxes.specs.Fluxes.{over_axes, advanced, finer_across}
use Rattle.grid_fluxes.specs.BoundaryFlows.{into, out, outer_after, outer_before}
use Rattle.grid_fluxes.specs.Bounds.{FluxesWithin, CarriesShares, upwind_cell}
use Rattle.grid_fluxes.specs.Upwind.{Flow, IsCourant, upwind, upwind_flux, is_closed_face}
use Rattle.grid_fluxes.proofs.Advancing.{total-advanced}
use Rattle.grid_fluxes.proofs.Shares.{CarriesShares-GivesWithin, finer_across-IsBelowFinest}

none_or : (b : Bool) (x : ℕ) → cond b 0 x ≤ x
none_or true x = omega arith
none_or false x = omega arith

-- the upwind flux carries shares
pub upwind-CarriesShares : (s : State) (flow : Flow) (f : ℕ) → IsCourant flow s.grid.finest → CarriesShares s (upwind s flow) f flow.speed flow.den
upwind-CarriesShares s flow f k = record {
  some = k.some;
  small = k.small;
  face = λ a v _.
      let u = upwind_cell s flow.goes_up a v in
      let x = flux (sample s f u) (flow.speed a) flow.den v.level in
      let l = none_or (is_closed_face s flow a v) (cond (is_outside a s.grid s.edge u) 0 x) in
      let n = none_or (is_outside a s.grid s.edge u) x in
      let r : x * flow.den ≤ sample s f u * flow.speed a * 2 ^ v.level = div-mul-le_self (sample s f u * flow.speed a * 2 ^ v.level) flow.den in
      let b : upwind_flux s flow f a v * flow.den ≤ x * flow.den = mul-le-mul_right flow.den (let z : upwind_flux s flow f a v ≤ x = omega arith in z) in
      le_trans b r;
}

-- nothing comes in under the upwind flux
pub upwind-into : (s : State) (flow : Flow) (f : ℕ) → into s (upwind s flow) f ≡ 0
upwind-into s flow f =
    sum-zero (λ c. over_axes (λ a. cond (flow.goes_up a) (outer_before s (upwind_flux s flow f) a c) (outer_after s (upwind_flux s flow f) a c))) (cells s.edge s.leaves) (λ i c e.
    let z : (a : Axis) → cond (flow.goes_up a) (outer_before s (upwind_flux s flow f) a c) (outer_after s (upwind_flux s flow f) a c) ≡ 0 = λ a. one a c in
    omega (arith, z along_x, z along_y, z along_z))
  where
    outside_upwind : (a : Axis) (v : Cube) → is_outside a s.grid s.edge (upwind_cell s flow.goes_up a v) ≡ true → upwind_flux s flow f a v ≡ 0
    outside_upwind a v h =
        let u = upwind_cell s flow.goes_up a v in
        let x = flux (sample s f u) (flow.speed a) flow.den v.level in
        cond_both (is_closed_face s flow a v) 0 (cond (is_outside a s.grid s.edge u) 0 x) (λ k. k ≡ 0) (λ _. refl) (λ _. cond-true (is_outside a s.grid s.edge u) 0 x h)

    one : (a : Axis) (c : Cube) → cond (flow.goes_up a) (outer_before s (upwind_flux s flow f) a c) (outer_after s (upwind_flux s flow f) a c) ≡ 0
    one a c =
        cond_both (flow.goes_up a) (outer_before s (upwind_flux s flow f) a c) (outer_after s (upwind_flux s flow f) a c) (λ k. k ≡ 0)
        (λ up.
        let u = previous_cell a s.grid s.edge c in
        cond_both (is_outside a s.grid s.edge u) (upwind_flux s flow f a c) 0 (λ k. k ≡ 0)
        (λ o. outside_upwind a c (ap (is_outside a s.grid s.edge) (cond-true (flow.goes_up a) u c up) ∙ o))
        (λ _. refl))
        (λ down.
        let v = next_cell a s.grid s.edge c in
        cond_both (is_outside a s.grid s.edge v) (upwind_flux s flow f a v) 0 (λ k. k ≡ 0)
        (λ o. outside_upwind a v (ap (is_outside a s.grid s.edge) (cond-false (flow.goes_up a) (previous_cell a s.grid s.edge v) v down) ∙ o))
        (λ _. refl))

-- so a field's total after an advance and what went out are its total before it
pub total-upwind : (s : State) (flow : Flow) (f : ℕ) → IsState s → f < s.fields → IsCourant flow s.grid.finest → total (advanced s (upwind s flow)) f + out s (upwind s flow) f ≡ total s f
total-upwind s flow f w h k =
    let within = CarriesShares-GivesWithin s (finer_across s) (upwind s flow) f flow.speed flow.den w (finer_across-IsBelowFinest s w) (upwind-CarriesShares s flow f k) in
    let e = total-advanced s w (upwind s flow) f h within in
    let none = upwind-into s flow f in
    omega arith

-- no upwind flux is above what the upwind cell holds
pub upwind-FluxesWithin : (s : State) (flow : Flow) (f m : ℕ) → IsCourant flow s.grid.finest → FluxesWithin s (upwind s flow) f m
upwind-FluxesWithin s flow f m k = record {
  inside = λ a v level _.
      let u = upwind_cell s flow.goes_up a v in
      let q = sample s f u in
      let x = flux q (flow.speed a) flow.den v.level in
      let r : x * flow.den ≤ q * flow.speed a * 2 ^ v.level = div-mul-le_self (q * flow.speed a * 2 ^ v.level) flow.den in
      let e : 2 ^ v.level ≤ 2 ^ s.grid.finest = pow-le-pow_right (omega arith) level in
      let p : flow.speed a * 2 ^ v.level ≤ over_axes flow.speed * 2 ^ s.grid.finest = mul-le (flow.speed a) (2 ^ v.level) (over_axes flow.speed) (2 ^ s.grid.finest) (one_of a) e in
      let t : q * (flow.speed a * 2 ^ v.level) ≤ q * flow.den = mul-le q (flow.speed a * 2 ^ v.level) q flow.den (omega arith) (le_trans p k.small) in
      let all : x ≤ q = le_of_mul-le-mul_right (le_trans r (let z : q * flow.speed a * 2 ^ v.level ≤ q * flow.den = omega arith in z)) k.some in
      cond_both (is_closed_face s flow a v) 0 (cond (is_outside a s.grid s.edge u) 0 x) (λ y. y ≤ q) (λ _. omega arith)
      (λ _. cond_both (is_outside a s.grid s.edge u) 0 x (λ y. y ≤ q) (λ _. omega arith) (λ _. all));
  outside = λ a v out.
      let u = upwind_cell s flow.goes_up a v in
      let x = flux (sample s f u) (flow.speed a) flow.den v.level in
      cond_both (is_closed_face s flow a v) 0 (cond (is_outside a s.grid s.edge u) 0 x) (λ y. y ≤ m) (λ _. omega arith)
      (λ _. let z : cond (is_outside a s.grid s.edge u) 0 x ≡ 0 = cond-true (is_outside a s.grid s.edge u) 0 x out in omega arith);
}
  where
    one_of : (a : Axis) → flow.speed a ≤ over_axes flow.speed
    one_of along_x = omega arith
    one_of along_y = omega arith
    one_of along_z = omega arith

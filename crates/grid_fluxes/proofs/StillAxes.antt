-- Along an axis whose fluxes are all 0 nothing moves.
use Rattle.std.proofs.Common.{◌≡◌, ℕ, ◌*◌, ◌/◌, ◌^◌, Bool, cond, refl, ap, ◌∙◌, arith, sum_by}
use Rattle.std.proofs.Math.Nat.{zero-div}
use Rattle.std.proofs.lemmas.Bool.{cond_both}
use Rattle.cello_num.specs.Fluxes.{flux}
use Rattle.block_index.specs.Places.{Cube}
use Rattle.block_fields.specs.States.{State}
use Rattle.block_fields.specs.Samples.{sample}
use Rattle.block_fields.proofs.Sums.{sum-zero}
use Rattle.grid_fluxes.specs.Axes.{Axis, next_cell, first_children, is_outside}
use Rattle.grid_fluxes.specs.Fluxes.{Across, Fluxes, face_flux, flux_before, flux_after, given_along, taken_along}
use Rattle.grid_fluxes.specs.Bounds.{upwind_cell}
use Rattle.grid_fluxes.specs.Upwind.{Flow, upwind_flux, is_closed_face}

pub face_flux-none : (sums : Bool) (flux : Cube → ℕ) (a : Axis) (v : Cube) → ((u : Cube) → flux u ≡ 0) → face_flux sums flux a v ≡ 0
face_flux-none sums flux a v h =
    cond_both sums (sum_by flux (first_children a v)) (flux v) (λ k. k ≡ 0) (λ _. sum-zero flux (first_children a v) (λ i u e. h u)) (λ _. h v)

module _ (s : State) (across : Across) (fluxes : Fluxes) (f : ℕ) (a : Axis) (c : Cube) (h : (v : Cube) → fluxes.level_flux f a v ≡ 0) where
  none_before : flux_before across (fluxes.level_flux f) a c ≡ 0
  none_before = face_flux-none (across.below a c) (fluxes.level_flux f a) a c h

  none_after : flux_after s across (fluxes.level_flux f) a c ≡ 0
  none_after = face_flux-none (across.above a c) (fluxes.level_flux f a) a (next_cell a s.grid s.edge c) h

  pub given_along-none : given_along s across fluxes f c a ≡ 0
  given_along-none =
      cond_both (fluxes.goes_up a) (flux_after s across (fluxes.level_flux f) a c) (flux_before across (fluxes.level_flux f) a c) (λ k. k ≡ 0) (λ _. none_after) (λ _. none_before)

  pub taken_along-none : taken_along s across fluxes f c a ≡ 0
  taken_along-none =
      cond_both (fluxes.goes_up a) (flux_before across (fluxes.level_flux f) a c) (flux_after s across (fluxes.level_flux f) a c) (λ k. k ≡ 0) (λ _. none_before) (λ _. none_after)

flux-none : (q den level : ℕ) → flux q 0 den level ≡ 0
flux-none q den level = ap (λ k. k / den) (let e : q * 0 * 2 ^ level ≡ 0 = omega arith in e) ∙ zero-div den

pub upwind_flux-none : (s : State) (flow : Flow) (f : ℕ) (a : Axis) (v : Cube) → flow.speed a ≡ 0 → upwind_flux s flow f a v ≡ 0
upwind_flux-none s flow f a v h =
    let u = upwind_cell s flow.goes_up a v in
    let x = flux (sample s f u) (flow.speed a) flow.den v.level in
    cond_both (is_closed_face s flow a v) 0 (cond (is_outside a s.grid s.edge u) 0 x) (λ k. k ≡ 0) (λ _. refl)
    (λ _. cond_both (is_outside a s.grid s.edge u) 0 x (λ k. k ≡ 0) (λ _. refl)
    (λ _. ap (λ p. flux (sample s f u) p flow.den v.level) h ∙ flux-none (sample s f u) flow.den v.level))

-- No amount after an advance, nor on the way to it, is above four times what bounds the total and the fluxes from
-- outside.
use Rattle.std.proofs.Common.{◌≡◌, ℕ, ◌+◌, ◌-◌, ◌*◌, ◌^◌, ◌<◌, ◌≤◌, true, false, refl, sym, ap, ◌∙◌, subst, arith, Some, slice_get, sum_by, inl, inr}
use Rattle.std.proofs.lemmas.Bool.{cond-true, cond-false, cond_both, cases_Bool, both_ways, false_from_ne_true, false≢true}
use Rattle.block_index.specs.Places.{Cube, child_of}
use Rattle.leaf_set.specs.Meshes.{IsLeaf}
use Rattle.block_fields.specs.Cells.{block_of, has_cell}
use Rattle.block_fields.specs.States.{State, IsState, total, held}
use Rattle.block_fields.specs.Samples.{sample}
use Rattle.block_fields.proofs.CellFacts.{has_cell-leaf}
use Rattle.block_fields.proofs.FilledStates.{held-filled}
use Rattle.block_fields.proofs.SampleBounds.{held-most, sample-most, children-most}
use Rattle.block_fields.proofs.SampleCases.{sample-here}
use Rattle.block_fields.proofs.Standings.{Standing, here, coarser, finer}
use Rattle.grid_fluxes.proofs.Besides.{stands_next, stands_previous}
use Rattle.grid_fluxes.proofs.UpwindFluxes.{upwind-FluxesWithin}
use Rattle.grid_fluxes.proofs.Outside.{along-child, child-along, not_inside, held-along}
use Rattle.grid_fluxes.proofs.Steps.{IsAlong, next_cell-level, upper_x_0, upper_x_2, upper_x_4, upper_x_6, upper_y_0, upper_y_1, upper_y_4, upper_y_5, upper_z_0, upper_z_1, upper_z_2, upper_z_3}
use Rattle.grid_fluxes.specs.Axes.{Axis, along_x, along_y, along_z, next_cell, previous_cell, first_children, is_outside}
use Rattle.grid_fluxes.specs.Fluxes.{has_finer, Across, none_across, Fluxes, flux_before, flux_after, given, taken, taken_along, advanced_by}
use Rattle.grid_fluxes.specs.Bounds.{upwind_cell, IsWithinFiner, FluxesWithin}
use Rattle.grid_fluxes.specs.Upwind.{Flow, IsCourant, upwind}

module _ (s : State) (w : IsState s) (fluxes : Fluxes) (f m : ℕ) (h : f < s.fields) (low : total s f ≤ m) (within : FluxesWithin s fluxes f m) where
  -- all finer leaves lie in u where one does
  finer_all : (u : Cube) → Standing s.edge s.leaves u → has_finer s.edge s.leaves u ≡ true → (k : ℕ) → k < 8 → IsLeaf s.leaves (block_of s.edge (child_of u k))
  finer_all u (here p q r) t k l = absurd (both_ways (has_cell s.edge s.leaves (child_of u 0)) (r 0 (omega arith)) t)
  finer_all u (coarser p q r) t k l = absurd (both_ways (has_cell s.edge s.leaves (child_of u 0)) (r 0 (omega arith)) t)
  finer_all u (finer p q r) t k l = has_cell-leaf s.edge s.leaves (child_of u k) (r k l)

  finer-along : (a : Axis) (u : Cube) → has_finer s.edge s.leaves u ≡ true → IsAlong a s.grid s.edge u
  finer-along a u t = child-along a s.grid s.edge u 0 (omega arith) (held-along a s.grid s.leaves w.mesh s.edge (omega (arith, w.edge)) (child_of u 0) t)

  -- a flux from a child that a leaf holds
  child_flux : (a : Axis) (u e : Cube) (k : ℕ) → k < 8 → e.level ≡ u.level + 1 → IsAlong a s.grid s.edge u → ((k : ℕ) → k < 8 → IsLeaf s.leaves (block_of s.edge (child_of u k))) → upwind_cell s fluxes.goes_up a e ≡ child_of u k → fluxes.level_flux f a e ≤ held s f (child_of u k)
  child_flux a u e k l level along leaves is =
      let leaf = leaves k l in
      let room : u.level + 1 ≤ s.grid.finest = let i = w.mesh.inside leaf.0 (block_of s.edge (child_of u k)) leaf.1 in i.level in
      let inside : is_outside a s.grid s.edge (child_of u k) ≡ false = false_from_ne_true (is_outside a s.grid s.edge (child_of u k)) (λ o. not_inside a s.grid s.edge (child_of u k) o (along-child a s.grid s.edge u k l along)) in
      subst (λ q. fluxes.level_flux f a e ≤ q) (ap (sample s f) is ∙ sample-here s f (child_of u k) leaf)
      (within.inside a e (omega arith) (subst (λ q. is_outside a s.grid s.edge q ≡ false) (sym is) inside))

  own_flux : (a : Axis) (v : Cube) → v.level ≤ s.grid.finest → fluxes.level_flux f a v ≤ m
  own_flux a v level =
      let u = upwind_cell s fluxes.goes_up a v in
      elim (cases_Bool (is_outside a s.grid s.edge u)) [
        | inl out ↦ within.outside a v out
        | inr inside ↦ let b = within.inside a v level inside in let t = sample-most s w f h u in omega arith
      ]

  upper : (a : Axis) → fluxes.goes_up a ≡ true → (v : Cube) → upwind_cell s fluxes.goes_up a v ≡ previous_cell a s.grid s.edge v
  upper a up v = cond-true (fluxes.goes_up a) (previous_cell a s.grid s.edge v) v up

  lower : (a : Axis) → fluxes.goes_up a ≡ false → (v : Cube) → upwind_cell s fluxes.goes_up a v ≡ v
  lower a down v = cond-false (fluxes.goes_up a) (previous_cell a s.grid s.edge v) v down

  sum_from_below : (a : Axis) (c : Cube) → fluxes.goes_up a ≡ true → IsAlong a s.grid s.edge (previous_cell a s.grid s.edge c) → ((k : ℕ) → k < 8 → IsLeaf s.leaves (block_of s.edge (child_of (previous_cell a s.grid s.edge c) k))) → sum_by (fluxes.level_flux f a) (first_children a c) ≤ m
  sum_from_below along_x c up along leaves =
      let u = previous_cell along_x s.grid s.edge c in
      let t = children-most s w f h u in
      omega (arith, child_flux along_x u (child_of c 0) 1 (omega arith) refl along leaves (upper along_x up (child_of c 0) ∙ upper_x_0 s.grid s.edge c along), child_flux along_x u (child_of c 2) 3 (omega arith) refl along leaves (upper along_x up (child_of c 2) ∙ upper_x_2 s.grid s.edge c along), child_flux along_x u (child_of c 4) 5 (omega arith) refl along leaves (upper along_x up (child_of c 4) ∙ upper_x_4 s.grid s.edge c along), child_flux along_x u (child_of c 6) 7 (omega arith) refl along leaves (upper along_x up (child_of c 6) ∙ upper_x_6 s.grid s.edge c along))
  sum_from_below along_y c up along leaves =
      let u = previous_cell along_y s.grid s.edge c in
      let t = children-most s w f h u in
      omega (arith, child_flux along_y u (child_of c 0) 2 (omega arith) refl along leaves (upper along_y up (child_of c 0) ∙ upper_y_0 s.grid s.edge c along), child_flux along_y u (child_of c 1) 3 (omega arith) refl along leaves (upper along_y up (child_of c 1) ∙ upper_y_1 s.grid s.edge c along), child_flux along_y u (child_of c 4) 6 (omega arith) refl along leaves (upper along_y up (child_of c 4) ∙ upper_y_4 s.grid s.edge c along), child_flux along_y u (child_of c 5) 7 (omega arith) refl along leaves (upper along_y up (child_of c 5) ∙ upper_y_5 s.grid s.edge c along))
  sum_from_below along_z c up along leaves =
      let u = previous_cell along_z s.grid s.edge c in
      let t = children-most s w f h u in
      omega (arith, child_flux along_z u (child_of c 0) 4 (omega arith) refl along leaves (upper along_z up (child_of c 0) ∙ upper_z_0 s.grid s.edge c along), child_flux along_z u (child_of c 1) 5 (omega arith) refl along leaves (upper along_z up (child_of c 1) ∙ upper_z_1 s.grid s.edge c along), child_flux along_z u (child_of c 2) 6 (omega arith) refl along leaves (upper along_z up (child_of c 2) ∙ upper_z_2 s.grid s.edge c along), child_flux along_z u (child_of c 3) 7 (omega arith) refl along leaves (upper along_z up (child_of c 3) ∙ upper_z_3 s.grid s.edge c along))

  sum_from_above : (a : Axis) (v : Cube) → fluxes.goes_up a ≡ false → IsAlong a s.grid s.edge v → ((k : ℕ) → k < 8 → IsLeaf s.leaves (block_of s.edge (child_of v k))) → sum_by (fluxes.level_flux f a) (first_children a v) ≤ m
  sum_from_above along_x v down along leaves =
      let t = children-most s w f h v in
      omega (arith, child_flux along_x v (child_of v 0) 0 (omega arith) refl along leaves (lower along_x down (child_of v 0)), child_flux along_x v (child_of v 2) 2 (omega arith) refl along leaves (lower along_x down (child_of v 2)), child_flux along_x v (child_of v 4) 4 (omega arith) refl along leaves (lower along_x down (child_of v 4)), child_flux along_x v (child_of v 6) 6 (omega arith) refl along leaves (lower along_x down (child_of v 6)))
  sum_from_above along_y v down along leaves =
      let t = children-most s w f h v in
      omega (arith, child_flux along_y v (child_of v 0) 0 (omega arith) refl along leaves (lower along_y down (child_of v 0)), child_flux along_y v (child_of v 1) 1 (omega arith) refl along leaves (lower along_y down (child_of v 1)), child_flux along_y v (child_of v 4) 4 (omega arith) refl along leaves (lower along_y down (child_of v 4)), child_flux along_y v (child_of v 5) 5 (omega arith) refl along leaves (lower along_y down (child_of v 5)))
  sum_from_above along_z v down along leaves =
      let t = children-most s w f h v in
      omega (arith, child_flux along_z v (child_of v 0) 0 (omega arith) refl along leaves (lower along_z down (child_of v 0)), child_flux along_z v (child_of v 1) 1 (omega arith) refl along leaves (lower along_z down (child_of v 1)), child_flux along_z v (child_of v 2) 2 (omega arith) refl along leaves (lower along_z down (child_of v 2)), child_flux along_z v (child_of v 3) 3 (omega arith) refl along leaves (lower along_z down (child_of v 3)))

  module _ (across : Across) (only : IsWithinFiner s across) (i : ℕ) (c : Cube) (at : slice_get s.leaves i ≡ Some (block_of s.edge c)) where
    taken-most : (a : Axis) → taken_along s across fluxes f c a ≤ m
    taken-most a =
        let level : c.level ≤ s.grid.finest = let p = w.mesh.inside i (block_of s.edge c) at in p.level in
        let u = previous_cell a s.grid s.edge c in
        let v = next_cell a s.grid s.edge c in
        cond_both (fluxes.goes_up a) (flux_before across (fluxes.level_flux f) a c) (flux_after s across (fluxes.level_flux f) a c) (λ x. x ≤ m)
        (λ up.
        cond_both (across.below a c) (sum_by (fluxes.level_flux f a) (first_children a c)) (fluxes.level_flux f a c) (λ x. x ≤ m)
        (λ t.
        let has = only.below a c t in
        let along = finer-along a u has in
        sum_from_below a c up along (finer_all u (stands_previous s.grid s.leaves w.domain w.mesh w.balanced s.edge w.edge a c i at along) has))
        (λ _. own_flux a c level))
        (λ down.
        cond_both (across.above a c) (sum_by (fluxes.level_flux f a) (first_children a v)) (fluxes.level_flux f a v) (λ x. x ≤ m)
        (λ t.
        let has = only.above a c t in
        let along = finer-along a v has in
        sum_from_above a v down along (finer_all v (stands_next s.grid s.leaves w.domain w.mesh w.balanced s.edge w.edge a c i at along) has))
        (λ _. own_flux a v (subst (λ k. k ≤ s.grid.finest) (sym (next_cell-level a s.grid s.edge c)) level)))

    pub advanced_by-most : held (advanced_by s across fluxes) f c ≤ 4 * m
    advanced_by-most =
        let e = held-filled s.grid s.edge s.fields s.leaves (λ f c. held s f c - given s across fluxes f c + taken s across fluxes f c) w.domain w.mesh w.edge f i c h at in
        let q = held-most s w f h c in
        let x = taken-most along_x in
        let y = taken-most along_y in
        let z = taken-most along_z in
        four (held (advanced_by s across fluxes) f c) (held s f c) (given s across fluxes f c) (taken_along s across fluxes f c along_x) (taken_along s across fluxes f c along_y) (taken_along s across fluxes f c along_z) m e (omega arith) x y z
      where
        four : (a h g x y z m : ℕ) → a ≡ h - g + (x + y + z) → h ≤ m → x ≤ m → y ≤ m → z ≤ m → a ≤ 4 * m
        four a h g x y z m e p q r t = omega arith

-- where no face carries a sum, none does without finer leaves across
pub none_across-IsWithinFiner : (s : State) → IsWithinFiner s none_across
none_across-IsWithinFiner s = record { below = λ a c t. absurd (false≢true t); above = λ a c t. absurd (false≢true t) }

pub provisional-most : (s : State) (across : Across) (flow : Flow) (f : ℕ) (c : Cube) → IsState s → f < s.fields → total s f ≤ 2 ^ 40 → IsCourant flow s.grid.finest → IsWithinFiner s across → IsLeaf s.leaves (block_of s.edge c) → held (advanced_by s across (upwind s flow)) f c ≤ 2 ^ 42
provisional-most s across flow f c w h low k only leaf =
    let most = advanced_by-most s w (upwind s flow) f (2 ^ 40) h low (upwind-FluxesWithin s flow f (2 ^ 40) k) across only leaf.0 c leaf.1 in
    omega arith

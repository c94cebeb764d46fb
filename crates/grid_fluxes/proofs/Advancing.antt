-- What an advance keeps: the total after it and what went out are the total before it and what came in.
use Rattle.std.proofs.Common.{◌≡◌, ℕ, ◌+◌, ◌-◌, ◌<◌, ◌≤◌, Bool, true, false, cond, sym, ap, ◌∙◌, arith, List, Some, sum_by, inl, inr}
use Rattle.std.proofs.lemmas.Bool.{cond-true, cond-false, cases_Bool}
use Rattle.block_index.specs.Places.{Cube}
use Rattle.block_fields.specs.Cells.{cells}
use Rattle.block_fields.specs.States.{State, IsState, total, held}
use Rattle.block_fields.proofs.Sums.{sum-same, sum-add}
use Rattle.block_fields.proofs.CellSums.{cells-same}
use Rattle.block_fields.proofs.FilledStates.{IsState-filled}
use Rattle.block_fields.proofs.SampleBounds.{held-most}
use Rattle.block_fields.proofs.Totals.{total-filled, total-held}
use Rattle.grid_fluxes.proofs.Outside.{none_outside}
use Rattle.grid_fluxes.proofs.Passing.{passes, three_sums}
use Rattle.grid_fluxes.specs.Axes.{Axis, along_x, along_y, along_z, next_cell, previous_cell, is_outside, first_children}
use Rattle.grid_fluxes.specs.Fluxes.{Fluxes, face_flux, flux_before, flux_after, finer_across, has_finer, given, taken, given_along, taken_along, advanced}
use Rattle.grid_fluxes.specs.BoundaryFlows.{outer_after, outer_before, out, into}
use Rattle.grid_fluxes.specs.Bounds.{GivesWithin}

-- an outer face carries its own flux, since no leaf lies across
two_ways : (s : State) (w : IsState s) (a : Axis) (across v : Cube) (flux : Cube → ℕ) → cond (is_outside a s.grid s.edge across) 0 (face_flux (has_finer s.edge s.leaves across) flux a v) + cond (is_outside a s.grid s.edge across) (flux v) 0 ≡ face_flux (has_finer s.edge s.leaves across) flux a v
two_ways s w a across v flux =
    elim (cases_Bool (is_outside a s.grid s.edge across)) [
      | inl outside ↦
          let n = none_outside a s.grid s.leaves w.mesh s.edge (omega (arith, w.edge)) across outside in
          omega (arith, cond-true (is_outside a s.grid s.edge across) 0 (face_flux (has_finer s.edge s.leaves across) flux a v) outside, cond-true (is_outside a s.grid s.edge across) (flux v) 0 outside, cond-false (has_finer s.edge s.leaves across) (sum_by flux (first_children a v)) (flux v) (n.2 0 (omega arith)))
      | inr inside ↦
          omega (arith, cond-false (is_outside a s.grid s.edge across) 0 (face_flux (has_finer s.edge s.leaves across) flux a v) inside, cond-false (is_outside a s.grid s.edge across) (flux v) 0 inside)
    ]

module _ (s : State) (w : IsState s) where
  -- a face is inner or outer
  parts : (inner outer whole : Cube → ℕ) → ((c : Cube) → inner c + outer c ≡ whole c) → sum_by whole (cells s.edge s.leaves) ≡ sum_by inner (cells s.edge s.leaves) + sum_by outer (cells s.edge s.leaves)
  parts inner outer whole h = sum-same whole (λ c. inner c + outer c) (cells s.edge s.leaves) (λ i c e. sym (h c)) ∙ sum-add inner outer (cells s.edge s.leaves)

  -- along one axis: what passes the upper faces and what comes in below, what passes the lower faces and what goes out above
  along_axis : (a : Axis) (flux : Axis → Cube → ℕ) → sum_by (flux_after s (finer_across s) flux a) (cells s.edge s.leaves) + sum_by (outer_before s flux a) (cells s.edge s.leaves) ≡ sum_by (flux_before (finer_across s) flux a) (cells s.edge s.leaves) + sum_by (outer_after s flux a) (cells s.edge s.leaves)
  along_axis a flux =
      let inner_after : Cube → ℕ = λ c. cond (is_outside a s.grid s.edge (next_cell a s.grid s.edge c)) 0 (flux_after s (finer_across s) flux a c) in
      let inner_before : Cube → ℕ = λ c. cond (is_outside a s.grid s.edge (previous_cell a s.grid s.edge c)) 0 (flux_before (finer_across s) flux a c) in
      let p = parts inner_after (outer_after s flux a) (flux_after s (finer_across s) flux a) (λ c. two_ways s w a (next_cell a s.grid s.edge c) (next_cell a s.grid s.edge c) (flux a)) in
      let q = parts inner_before (outer_before s flux a) (flux_before (finer_across s) flux a) (λ c. two_ways s w a (previous_cell a s.grid s.edge c) c (flux a)) in
      let e : sum_by inner_after (cells s.edge s.leaves) ≡ sum_by inner_before (cells s.edge s.leaves) = passes s.grid s.leaves w.domain w.mesh w.balanced s.edge w.edge a (flux a) in
      omega arith

  -- the same whichever way the flow goes
  either_way : (b : Bool) (x y u v : Cube → ℕ) (xs : List Cube) → sum_by x xs + sum_by v xs ≡ sum_by y xs + sum_by u xs → sum_by (λ c. cond b (x c) (y c)) xs + sum_by (λ c. cond b (v c) (u c)) xs ≡ sum_by (λ c. cond b (y c) (x c)) xs + sum_by (λ c. cond b (u c) (v c)) xs
  either_way true x y u v xs h = h
  either_way false x y u v xs h = sym h

  balance : (fluxes : Fluxes) (f : ℕ) → sum_by (given s (finer_across s) fluxes f) (cells s.edge s.leaves) + into s fluxes f ≡ sum_by (taken s (finer_across s) fluxes f) (cells s.edge s.leaves) + out s fluxes f
  balance fluxes f =
      let xs = cells s.edge s.leaves in
      let flux = fluxes.level_flux f in
      let gives : Axis → Cube → ℕ = λ a c. given_along s (finer_across s) fluxes f c a in
      let takes : Axis → Cube → ℕ = λ a c. taken_along s (finer_across s) fluxes f c a in
      let outs : Axis → Cube → ℕ = λ a c. cond (fluxes.goes_up a) (outer_after s flux a c) (outer_before s flux a c) in
      let ins : Axis → Cube → ℕ = λ a c. cond (fluxes.goes_up a) (outer_before s flux a c) (outer_after s flux a c) in
      let one : (a : Axis) → sum_by (gives a) xs + sum_by (ins a) xs ≡ sum_by (takes a) xs + sum_by (outs a) xs = λ a. either_way (fluxes.goes_up a) (flux_after s (finer_across s) flux a) (flux_before (finer_across s) flux a) (outer_after s flux a) (outer_before s flux a) xs (along_axis a flux) in
      omega (arith, three_sums (gives along_x) (gives along_y) (gives along_z) xs, three_sums (takes along_x) (takes along_y) (takes along_z) xs, three_sums (outs along_x) (outs along_y) (outs along_z) xs, three_sums (ins along_x) (ins along_y) (ins along_z) xs, one along_x, one along_y, one along_z)

  pub total-advanced : (fluxes : Fluxes) (f : ℕ) → f < s.fields → GivesWithin s (finer_across s) fluxes f → total (advanced s fluxes) f + out s fluxes f ≡ total s f + into s fluxes f
  total-advanced fluxes f h within =
      let xs = cells s.edge s.leaves in
      let new : Cube → ℕ = λ c. held s f c - given s (finer_across s) fluxes f c + taken s (finer_across s) fluxes f c in
      let t : total (advanced s fluxes) f ≡ sum_by new xs = total-filled s.grid s.edge s.fields s.leaves (λ f c. held s f c - given s (finer_across s) fluxes f c + taken s (finer_across s) fluxes f c) f h in
      let o : total s f ≡ sum_by (held s f) xs = total-held s f w h in
      let e : sum_by (λ c. new c + given s (finer_across s) fluxes f c) xs ≡ sum_by (λ c. held s f c + taken s (finer_across s) fluxes f c) xs = cells-same s.edge s.leaves (λ c. new c + given s (finer_across s) fluxes f c) (λ c. held s f c + taken s (finer_across s) fluxes f c) (omega (arith, w.edge)) (λ i b c at k. pays (held s f c) (given s (finer_across s) fluxes f c) (taken s (finer_across s) fluxes f c) (within i c (at ∙ ap Some (sym k)))) in
      let l = sum-add new (given s (finer_across s) fluxes f) xs in
      let r = sum-add (held s f) (taken s (finer_across s) fluxes f) xs in
      let b = balance fluxes f in
      settled (total (advanced s fluxes) f) (out s fluxes f) (total s f) (into s fluxes f) (sum_by new xs) (sum_by (given s (finer_across s) fluxes f) xs) (sum_by (held s f) xs) (sum_by (taken s (finer_across s) fluxes f) xs) t o (sym l ∙ e ∙ r) b
    where
      pays : (h g t : ℕ) → g ≤ h → h - g + t + g ≡ h + t
      pays h g t l = omega arith

      settled : (a o b i n g h t : ℕ) → a ≡ n → b ≡ h → n + g ≡ h + t → g + i ≡ t + o → a + o ≡ b + i
      settled a o b i n g h t p q r e = omega arith

  -- ---- what goes out is at most what is there

  outer_most : (a : Axis) (flux : Axis → Cube → ℕ) → (sum_by (outer_after s flux a) (cells s.edge s.leaves) ≤ sum_by (flux_after s (finer_across s) flux a) (cells s.edge s.leaves)) × (sum_by (outer_before s flux a) (cells s.edge s.leaves) ≤ sum_by (flux_before (finer_across s) flux a) (cells s.edge s.leaves))
  outer_most a flux =
      let inner_after : Cube → ℕ = λ c. cond (is_outside a s.grid s.edge (next_cell a s.grid s.edge c)) 0 (flux_after s (finer_across s) flux a c) in
      let inner_before : Cube → ℕ = λ c. cond (is_outside a s.grid s.edge (previous_cell a s.grid s.edge c)) 0 (flux_before (finer_across s) flux a c) in
      let p = parts inner_after (outer_after s flux a) (flux_after s (finer_across s) flux a) (λ c. two_ways s w a (next_cell a s.grid s.edge c) (next_cell a s.grid s.edge c) (flux a)) in
      let q = parts inner_before (outer_before s flux a) (flux_before (finer_across s) flux a) (λ c. two_ways s w a (previous_cell a s.grid s.edge c) c (flux a)) in
      (omega arith, omega arith)

  chosen_most : (b : Bool) (x y u v : Cube → ℕ) (xs : List Cube) → (sum_by x xs ≤ sum_by u xs) × (sum_by y xs ≤ sum_by v xs) → sum_by (λ c. cond b (x c) (y c)) xs ≤ sum_by (λ c. cond b (u c) (v c)) xs
  chosen_most true x y u v xs h = h.0
  chosen_most false x y u v xs h = h.1

  pub out-most : (fluxes : Fluxes) (f : ℕ) → f < s.fields → GivesWithin s (finer_across s) fluxes f → out s fluxes f ≤ total s f
  out-most fluxes f h within =
      let xs = cells s.edge s.leaves in
      let flux = fluxes.level_flux f in
      let gives : Axis → Cube → ℕ = λ a c. given_along s (finer_across s) fluxes f c a in
      let outs : Axis → Cube → ℕ = λ a c. cond (fluxes.goes_up a) (outer_after s flux a c) (outer_before s flux a c) in
      let one : (a : Axis) → sum_by (outs a) xs ≤ sum_by (gives a) xs = λ a. chosen_most (fluxes.goes_up a) (outer_after s flux a) (outer_before s flux a) (flux_after s (finer_across s) flux a) (flux_before (finer_across s) flux a) xs (outer_most a flux) in
      let o : total s f ≡ sum_by (held s f) xs = total-held s f w h in
      let e : sum_by (λ c. held s f c - given s (finer_across s) fluxes f c + given s (finer_across s) fluxes f c) xs ≡ sum_by (held s f) xs = cells-same s.edge s.leaves (λ c. held s f c - given s (finer_across s) fluxes f c + given s (finer_across s) fluxes f c) (held s f) (omega (arith, w.edge)) (λ i b c at k. back (held s f c) (given s (finer_across s) fluxes f c) (within i c (at ∙ ap Some (sym k)))) in
      let l = sum-add (λ c. held s f c - given s (finer_across s) fluxes f c) (given s (finer_across s) fluxes f) xs in
      least (out s fluxes f) (sum_by (given s (finer_across s) fluxes f) xs) (sum_by (λ c. held s f c - given s (finer_across s) fluxes f c) xs) (sum_by (held s f) xs) (total s f) o (sym l ∙ e)
      (omega (arith, three_sums (gives along_x) (gives along_y) (gives along_z) xs, three_sums (outs along_x) (outs along_y) (outs along_z) xs, one along_x, one along_y, one along_z))
    where
      back : (h g : ℕ) → g ≤ h → h - g + g ≡ h
      back h g l = omega arith

      least : (o g d h t : ℕ) → t ≡ h → d + g ≡ h → o ≤ g → o ≤ t
      least o g d h t e k l = omega arith

  pub advanced-most : (fluxes : Fluxes) (f : ℕ) → f < s.fields → GivesWithin s (finer_across s) fluxes f → (c : Cube) → held (advanced s fluxes) f c ≤ total s f + into s fluxes f
  advanced-most fluxes f h within c =
      let after : IsState (advanced s fluxes) = IsState-filled s.grid s.edge s.fields s.leaves (λ f c. held s f c - given s (finer_across s) fluxes f c + taken s (finer_across s) fluxes f c) w.domain w.mesh w.edge w.balanced in
      let most : held (advanced s fluxes) f c ≤ total (advanced s fluxes) f = held-most (advanced s fluxes) after f h c in
      let all = total-advanced fluxes f h within in
      omega arith

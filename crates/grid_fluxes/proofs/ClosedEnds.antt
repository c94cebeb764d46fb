-- Nothing passes the closed ends of an axis, and a periodic axis has no ends.
use Rattle.std.proofs.Common.{◌≡◌, ℕ, ◌+◌, ◌*◌, ◌^◌, ◌<◌, ◌⊎◌, true, ◌||◌, cond, sym, ap, ◌∙◌, subst, arith, Some, inl, inr, refl}
use Rattle.std.proofs.lemmas.Bool.{and_from, cases_eq, cond-true, cond_both, or_left, or_right}
use Rattle.cello_num.specs.Fluxes.{flux}
use Rattle.block_index.specs.Places.{Cube, Grid}
use Rattle.block_fields.specs.Cells.{block_of, cells}
use Rattle.block_fields.specs.States.{State, IsState}
use Rattle.block_fields.specs.Samples.{sample}
use Rattle.block_fields.proofs.CellSums.{cells-same}
use Rattle.block_fields.proofs.Sums.{sum-zero}
use Rattle.grid_fluxes.specs.Axes.{Axis, along_x, along_y, along_z, wraps_along, next_coordinate, previous_coordinate, next_cell, previous_cell, is_outside}
use Rattle.grid_fluxes.specs.BoundaryFlows.{out, out_of, outer_after, outer_before}
use Rattle.grid_fluxes.specs.Bounds.{upwind_cell}
use Rattle.grid_fluxes.specs.Upwind.{Flow, is_closed_face, upwind, upwind_flux}
use Rattle.grid_fluxes.proofs.Besides.{leaf_cell-inside}
use Rattle.grid_fluxes.proofs.Coordinates.{next_end, next_on, previous_end, previous_on}
use Rattle.grid_fluxes.proofs.Outside.{not_inside}
use Rattle.grid_fluxes.proofs.Steps.{IsAlong}

-- ---- an axis that wraps

next_wraps : (m x : ℕ) → x < m → next_coordinate true m x < m
next_wraps m x h =
    elim (cases_eq (x + 1) m) [
      | inl e ↦ subst (λ u. u < m) (sym (next_end true m x e)) (omega arith)
      | inr n ↦ subst (λ u. u < m) (sym (next_on true m x n)) (omega arith)
    ]

previous_wraps : (m y : ℕ) → y < m → previous_coordinate true m y < m
previous_wraps m y h =
    elim (cases_eq y 0) [
      | inl e ↦ subst (λ u. u < m) (sym (previous_end true m y e)) (omega arith)
      | inr n ↦ subst (λ u. u < m) (sym (previous_on true m y n)) (omega arith)
    ]

next-wraps : (a : Axis) (grid : Grid) (n : ℕ) (c : Cube) → wraps_along a grid ≡ true → IsAlong a grid n c → IsAlong a grid n (next_cell a grid n c)
next-wraps along_x grid n c w h = subst (λ b. next_coordinate b (grid.trees_x * 2 ^ c.level * n) c.x < grid.trees_x * 2 ^ c.level * n) (sym w) (next_wraps (grid.trees_x * 2 ^ c.level * n) c.x h)
next-wraps along_y grid n c w h = subst (λ b. next_coordinate b (grid.trees_y * 2 ^ c.level * n) c.y < grid.trees_y * 2 ^ c.level * n) (sym w) (next_wraps (grid.trees_y * 2 ^ c.level * n) c.y h)
next-wraps along_z grid n c w h = subst (λ b. next_coordinate b (grid.trees_z * 2 ^ c.level * n) c.z < grid.trees_z * 2 ^ c.level * n) (sym w) (next_wraps (grid.trees_z * 2 ^ c.level * n) c.z h)

previous-wraps : (a : Axis) (grid : Grid) (n : ℕ) (c : Cube) → wraps_along a grid ≡ true → IsAlong a grid n c → IsAlong a grid n (previous_cell a grid n c)
previous-wraps along_x grid n c w h = subst (λ b. previous_coordinate b (grid.trees_x * 2 ^ c.level * n) c.x < grid.trees_x * 2 ^ c.level * n) (sym w) (previous_wraps (grid.trees_x * 2 ^ c.level * n) c.x h)
previous-wraps along_y grid n c w h = subst (λ b. previous_coordinate b (grid.trees_y * 2 ^ c.level * n) c.y < grid.trees_y * 2 ^ c.level * n) (sym w) (previous_wraps (grid.trees_y * 2 ^ c.level * n) c.y h)
previous-wraps along_z grid n c w h = subst (λ b. previous_coordinate b (grid.trees_z * 2 ^ c.level * n) c.z < grid.trees_z * 2 ^ c.level * n) (sym w) (previous_wraps (grid.trees_z * 2 ^ c.level * n) c.z h)

-- ---- a closed end

pub closed_face-none : (s : State) (flow : Flow) (f : ℕ) (a : Axis) (v : Cube) → is_closed_face s flow a v ≡ true → upwind_flux s flow f a v ≡ 0
closed_face-none s flow f a v h =
    let u = upwind_cell s flow.goes_up a v in
    cond-true (is_closed_face s flow a v) 0 (cond (is_outside a s.grid s.edge u) 0 (flux (sample s f u) (flow.speed a) flow.den v.level)) h

module _ (s : State) (w : IsState s) (flow : Flow) (f : ℕ) (ends : (a : Axis) → (flow.closed a ≡ true) ⊎ (wraps_along a s.grid ≡ true)) where
  none_after : (a : Axis) (c : Cube) → IsAlong a s.grid s.edge c → outer_after s (upwind_flux s flow f) a c ≡ 0
  none_after a c h =
      let v = next_cell a s.grid s.edge c in
      cond_both (is_outside a s.grid s.edge v) (upwind_flux s flow f a v) 0 (λ k. k ≡ 0)
      (λ o. elim (ends a) [
        | inl closed ↦
            closed_face-none s flow f a v
            (and_from (flow.closed a) (is_outside a s.grid s.edge v || is_outside a s.grid s.edge (previous_cell a s.grid s.edge v)) closed
            (or_left (is_outside a s.grid s.edge v) (is_outside a s.grid s.edge (previous_cell a s.grid s.edge v)) o))
        | inr wraps ↦ absurd (not_inside a s.grid s.edge v o (next-wraps a s.grid s.edge c wraps h))
      ])
      (λ _. refl)

  none_before : (a : Axis) (c : Cube) → IsAlong a s.grid s.edge c → outer_before s (upwind_flux s flow f) a c ≡ 0
  none_before a c h =
      let u = previous_cell a s.grid s.edge c in
      cond_both (is_outside a s.grid s.edge u) (upwind_flux s flow f a c) 0 (λ k. k ≡ 0)
      (λ o. elim (ends a) [
        | inl closed ↦
            closed_face-none s flow f a c
            (and_from (flow.closed a) (is_outside a s.grid s.edge c || is_outside a s.grid s.edge u) closed
            (or_right (is_outside a s.grid s.edge c) (is_outside a s.grid s.edge u) o))
        | inr wraps ↦ absurd (not_inside a s.grid s.edge u o (previous-wraps a s.grid s.edge c wraps h))
      ])
      (λ _. refl)

  none_out : (c : Cube) → ((a : Axis) → IsAlong a s.grid s.edge c) → out_of s (upwind s flow) f c ≡ 0
  none_out c h =
      let one : (a : Axis) → cond (flow.goes_up a) (outer_after s (upwind_flux s flow f) a c) (outer_before s (upwind_flux s flow f) a c) ≡ 0 = λ a. cond_both (flow.goes_up a) (outer_after s (upwind_flux s flow f) a c) (outer_before s (upwind_flux s flow f) a c) (λ k. k ≡ 0) (λ _. none_after a c (h a)) (λ _. none_before a c (h a)) in
      omega (arith, one along_x, one along_y, one along_z)

  pub out-none : out s (upwind s flow) f ≡ 0
  out-none =
      cells-same s.edge s.leaves (out_of s (upwind s flow) f) (λ c. 0) (omega (arith, w.edge)) (λ i b c at k.
      none_out c (λ a. leaf_cell-inside a s.grid s.edge c (omega (arith, w.edge)) (w.mesh.inside i (block_of s.edge c) (at ∙ ap Some (sym k)))))
      ∙ sum-zero (λ c. 0) (cells s.edge s.leaves) (λ i c e. refl)

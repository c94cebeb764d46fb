-- The fluxes that a block finds by itself are the upwind fluxes of its state.
use Rattle.std.proofs.Common.{◌≡◌, ℕ, zero, suc, ◌+◌, ◌*◌, ◌/◌, ◌%◌, ◌^◌, ◌<◌, Bool, true, false, ◌&&◌, ◌||◌, ◌==◌, cond, Some, arith, ap, sym, ◌∙◌, subst, refl, ℤ, pos, negsuc, ◌+ℤ◌}
use Rattle.std.proofs.lemmas.Bool.Decides.{nat_tests}
use Rattle.std.proofs.lemmas.Int.{ints}
use Rattle.std.proofs.lemmas.Nat.{div-add-mod', mod_below}
use Rattle.cello_num.specs.Fluxes.{flux}
use Rattle.block_index.specs.Places.{Cube}
use Rattle.leaf_set.specs.Meshes.{IsLeaf}
use Rattle.block_fields.specs.Blocks.{BlockState, IsBlock}
use Rattle.block_fields.specs.BlockStates.{HoldsSamples, IsLeafOf}
use Rattle.block_fields.specs.Cells.{block_of}
use Rattle.block_fields.specs.Samples.{cell_near, sample}
use Rattle.block_fields.specs.Shells.{IsAround}
use Rattle.block_fields.specs.States.{State, IsState}
use Rattle.block_fields.proofs.SamplesAround.{seen-samples}
use Rattle.grid_fluxes.specs.Axes.{Axis, along_x, along_y, along_z, cell_stepped, coordinate, is_outside, next_cell, previous_cell, trees_along, wraps_along}
use Rattle.grid_fluxes.specs.Upwind.{Flow, upwind_flux}
use Rattle.grid_fluxes.proofs.NearCells.{cell_stepped-down, cell_stepped-none, cell_stepped-up}
use Rattle.grid_fluxes.proofs.Outside.{inside_from, leaf_cell-not_outside}
use Rattle.grid_fluxes.proofs.Steps.{IsAlong, next_cell-level, previous_cell-next}
use Rattle.advect.specs.CellFluxes.{own_after, own_before}
use Rattle.advect.specs.Coordinates.{across_first, across_second, along}
use Rattle.advect.specs.OwnFluxes.{is_outer, one_before, own_flux, seen_on, upwind_side}
use Rattle.advect.proofs.OuterFaces.{outer-after, outer-before}

-- the two ways to say that nothing passes a face
same-barred : (closed outer any at_upwind upwind_outside : Bool) (l r : ℕ) → outer ≡ any → (outer ≡ true → at_upwind ≡ upwind_outside) → (outer ≡ false → upwind_outside ≡ false) → (upwind_outside ≡ false → l ≡ r) →
    cond (outer && (closed || at_upwind)) 0 l ≡ cond (closed && any) 0 (cond upwind_outside 0 r)
same-barred true true any t u l r e at away same = ap (λ q. cond q 0 (cond u 0 r)) e
same-barred false true any t true l r e at away same = ap (λ q. cond q 0 l) (at refl)
same-barred false true any t false l r e at away same = ap (λ q. cond q 0 l) (at refl) ∙ same refl
same-barred true false any t u l r e at away same =
    same (away refl) ∙ (λ j. cond (e j) 0 (cond (sym (away refl) j) 0 r))
same-barred false false any t u l r e at away same =
    same (away refl) ∙ (λ j. cond (sym (away refl) j) 0 r)

or-none : (p q : Bool) → q ≡ false → p ≡ (p || q)
or-none true q e = refl
or-none false q e = sym e

low-end : (w : Bool) (u n p k : ℕ) → u < n → cond w false (((u == 0) && (p == 0)) || ((u == n) && (p + 1 == k))) ≡ true → (u == 0) ≡ true
low-end true u n p k h e = absurd (cc)
low-end false u n p k h e = grind (arith, nat_tests)

high-end : (w : Bool) (u n p k : ℕ) → cond w false (((u + 1 == 0) && (p == 0)) || ((u + 1 == n) && (p + 1 == k))) ≡ true → (u + 1 == n) ≡ true
high-end true u n p k e = absurd (cc)
high-end false u n p k e = grind (arith, nat_tests)

-- along an axis, and across it
pub along-cell : (a : Axis) (n : ℕ) (c : Cube) → along a (c.x % n) (c.y % n) (c.z % n) ≡ coordinate a c % n
along-cell along_x n c = refl
along-cell along_y n c = refl
along-cell along_z n c = refl

from-first : (p n m x : ℕ) → p ≡ x / n → m ≡ n → p * m + x % n ≡ x
from-first p n m x e k = (λ j. e j * k j + x % n) ∙ div-add-mod' x n

module _ (s : State) (w : IsState s) (i : ℕ) (b : BlockState) (limits : IsBlock b) (k : IsLeafOf s i b) (samples : HoldsSamples s b) (f : ℕ) (hf : f < s.fields) (c : Cube) (e : block_of s.edge c ≡ b.place) where
  some : 0 < s.edge
  some = let h = w.edge in omega (arith, h)

  leaf : IsLeaf s.leaves (block_of s.edge c)
  leaf = (i, k.leaf ∙ ap Some (sym e))

  inside : (a : Axis) → IsAlong a s.grid s.edge c
  inside a = inside_from a s.grid s.edge c (leaf_cell-not_outside s w c leaf a)

  -- the cell's coordinates in the block
  within : (x : ℕ) → x % s.edge < b.edge
  within x = subst (λ m. x % s.edge < m) (sym k.same_edge) (mod_below x s.edge some)

  around : (x : ℕ) → IsAround b.edge b.depth (pos (x % s.edge))
  around x = let h = within x in omega (arith, h)

  first-x : b.place.x * b.edge + c.x % s.edge ≡ c.x
  first-x = from-first b.place.x s.edge b.edge c.x (ap (λ (p : Cube). p.x) (sym e)) k.same_edge

  first-y : b.place.y * b.edge + c.y % s.edge ≡ c.y
  first-y = from-first b.place.y s.edge b.edge c.y (ap (λ (p : Cube). p.y) (sym e)) k.same_edge

  first-z : b.place.z * b.edge + c.z % s.edge ≡ c.z
  first-z = from-first b.place.z s.edge b.edge c.z (ap (λ (p : Cube). p.z) (sym e)) k.same_edge

  level : b.place.level ≡ c.level
  level = ap (λ (p : Cube). p.level) (sym e)

  -- what the block sees along an axis from the cell
  seen-stepped : (a : Axis) (t r : ℤ) → pos (coordinate a b.place * b.edge) +ℤ t ≡ pos (coordinate a c) +ℤ r → IsAround b.edge b.depth t →
      seen_on b f a t (across_first a (c.x % s.edge) (c.y % s.edge) (c.z % s.edge)) (across_second a (c.x % s.edge) (c.y % s.edge) (c.z % s.edge)) ≡ sample s f (cell_stepped a s.grid s.edge c r)
  seen-stepped along_x t r at h =
      seen-samples s w i b k samples f t (pos (c.y % s.edge)) (pos (c.z % s.edge)) hf h (around c.y) (around c.z)
      ∙ (λ j. sample s f (cell_near s.grid s.edge (level j) (at j) (pos (first-y j)) (pos (first-z j))))
  seen-stepped along_y t r at h =
      seen-samples s w i b k samples f (pos (c.x % s.edge)) t (pos (c.z % s.edge)) hf (around c.x) h (around c.z)
      ∙ (λ j. sample s f (cell_near s.grid s.edge (level j) (pos (first-x j)) (at j) (pos (first-z j))))
  seen-stepped along_z t r at h =
      seen-samples s w i b k samples f (pos (c.x % s.edge)) (pos (c.y % s.edge)) t hf (around c.x) (around c.y) h
      ∙ (λ j. sample s f (cell_near s.grid s.edge (level j) (pos (first-x j)) (pos (first-y j)) (at j)))

  module _ (a : Axis) where
    abbrev u : ℕ
    u = along a (c.x % s.edge) (c.y % s.edge) (c.z % s.edge)

    first : coordinate a b.place * b.edge + u ≡ coordinate a c
    first = by_axis a
      where
        by_axis : (a : Axis) → coordinate a b.place * b.edge + along a (c.x % s.edge) (c.y % s.edge) (c.z % s.edge) ≡ coordinate a c
        by_axis along_x = first-x
        by_axis along_y = first-y
        by_axis along_z = first-z

    below : u < b.edge
    below = by_axis a
      where
        by_axis : (a : Axis) → along a (c.x % s.edge) (c.y % s.edge) (c.z % s.edge) < b.edge
        by_axis along_x = within c.x
        by_axis along_y = within c.y
        by_axis along_z = within c.z

    abbrev seen : ℤ → ℕ
    seen t = seen_on b f a t (across_first a (c.x % s.edge) (c.y % s.edge) (c.z % s.edge)) (across_second a (c.x % s.edge) (c.y % s.edge) (c.z % s.edge))

    seen-own : seen (pos u) ≡ sample s f c
    seen-own =
        seen-stepped a (pos u) (pos 0) (ap pos first ∙ still (coordinate a c)) (omega (arith, below))
        ∙ ap (sample s f) (cell_stepped-none s.grid s.edge c inside a)
      where
        still : (x : ℕ) → pos x ≡ pos x +ℤ pos 0
        still x = omega (arith, ints)

    seen-next : is_outside a s.grid s.edge (next_cell a s.grid s.edge c) ≡ false → seen (pos (u + 1)) ≡ sample s f (next_cell a s.grid s.edge c)
    seen-next h =
        seen-stepped a (pos (u + 1)) (pos 1) (ap pos (let p = first in let q : coordinate a b.place * b.edge + (u + 1) ≡ coordinate a c + 1 = omega (arith, p) in q)) (let m = below in omega (arith, m, limits.shallowest))
        ∙ ap (sample s f) (cell_stepped-up s.grid s.edge c inside a (inside_from a s.grid s.edge (next_cell a s.grid s.edge c) h))

    seen-previous : is_outside a s.grid s.edge (previous_cell a s.grid s.edge c) ≡ false → seen (one_before u) ≡ sample s f (previous_cell a s.grid s.edge c)
    seen-previous h =
        seen-stepped a (one_before u) (negsuc 0) (back u (coordinate a b.place * b.edge) (coordinate a c) first) (near u below)
        ∙ ap (sample s f) (cell_stepped-down s.grid s.edge c inside a (inside_from a s.grid s.edge (previous_cell a s.grid s.edge c) h))
      where
        back : (u p x : ℕ) → p + u ≡ x → pos p +ℤ one_before u ≡ pos x +ℤ negsuc 0
        back zero p x e = omega (arith, ints, e)
        back (suc u) p x e = omega (arith, ints, e)

        near : (u : ℕ) → u < b.edge → IsAround b.edge b.depth (one_before u)
        near zero h = omega (arith, limits.shallowest)
        near (suc u) h = omega (arith, h)

    -- its outer faces
    outer-low : is_outer s.grid b a u ≡ is_outside a s.grid s.edge (previous_cell a s.grid s.edge c)
    outer-low =
        (λ j. cond (wraps_along a s.grid) false (((u == 0) && (coordinate a (sym e j) == 0)) || ((u == k.same_edge j) && (coordinate a (sym e j) + 1 == trees_along a s.grid * 2 ^ level j))))
        ∙ by_axis a
      where
        by_axis : (a : Axis) → cond (wraps_along a s.grid) false (((along a (c.x % s.edge) (c.y % s.edge) (c.z % s.edge) == 0) && (coordinate a (block_of s.edge c) == 0)) || ((along a (c.x % s.edge) (c.y % s.edge) (c.z % s.edge) == s.edge) && (coordinate a (block_of s.edge c) + 1 == trees_along a s.grid * 2 ^ c.level)))
            ≡ is_outside a s.grid s.edge (previous_cell a s.grid s.edge c)
        by_axis along_x = outer-before (s.grid.trees_x * 2 ^ c.level) s.edge c.x some (inside along_x) s.grid.wraps_x
        by_axis along_y = outer-before (s.grid.trees_y * 2 ^ c.level) s.edge c.y some (inside along_y) s.grid.wraps_y
        by_axis along_z = outer-before (s.grid.trees_z * 2 ^ c.level) s.edge c.z some (inside along_z) s.grid.wraps_z

    outer-high : is_outer s.grid b a (u + 1) ≡ is_outside a s.grid s.edge (next_cell a s.grid s.edge c)
    outer-high =
        (λ j. cond (wraps_along a s.grid) false (((u + 1 == 0) && (coordinate a (sym e j) == 0)) || ((u + 1 == k.same_edge j) && (coordinate a (sym e j) + 1 == trees_along a s.grid * 2 ^ level j))))
        ∙ by_axis a
      where
        by_axis : (a : Axis) → cond (wraps_along a s.grid) false (((along a (c.x % s.edge) (c.y % s.edge) (c.z % s.edge) + 1 == 0) && (coordinate a (block_of s.edge c) == 0)) || ((along a (c.x % s.edge) (c.y % s.edge) (c.z % s.edge) + 1 == s.edge) && (coordinate a (block_of s.edge c) + 1 == trees_along a s.grid * 2 ^ c.level)))
            ≡ is_outside a s.grid s.edge (next_cell a s.grid s.edge c)
        by_axis along_x = outer-after (s.grid.trees_x * 2 ^ c.level) s.edge c.x some (inside along_x) s.grid.wraps_x
        by_axis along_y = outer-after (s.grid.trees_y * 2 ^ c.level) s.edge c.y some (inside along_y) s.grid.wraps_y
        by_axis along_z = outer-after (s.grid.trees_z * 2 ^ c.level) s.edge c.z some (inside along_z) s.grid.wraps_z

    own_inside : is_outside a s.grid s.edge c ≡ false
    own_inside = leaf_cell-not_outside s w c leaf a

    at-low : is_outer s.grid b a u ≡ true → (u == 0) ≡ true
    at-low h = low-end (wraps_along a s.grid) u b.edge (coordinate a b.place) (trees_along a s.grid * 2 ^ b.place.level) below h

    at-high : is_outer s.grid b a (u + 1) ≡ true → (u + 1 == b.edge) ≡ true
    at-high h = high-end (wraps_along a s.grid) u b.edge (coordinate a b.place) (trees_along a s.grid * 2 ^ b.place.level) h

    not-low : (u + 1 == 0) ≡ false
    not-low = grind (arith, nat_tests)

    not-high : (u == b.edge) ≡ false
    not-high = let h = below in grind (arith, nat_tests)

    module _ (flow : Flow) where
      -- through the face at which the cell begins
      pub own-before : own_before s.edge (own_flux flow s.grid b) f a c ≡ upwind_flux s flow f a c
      own-before = by_way (flow.goes_up a)
        where
          by_way : (up : Bool) → cond (is_outer s.grid b a u && (flow.closed a || cond up (u == 0) (u == b.edge))) 0 (flux (seen (upwind_side up u)) (flow.speed a) flow.den b.place.level)
              ≡ cond (flow.closed a && (is_outside a s.grid s.edge c || is_outside a s.grid s.edge (previous_cell a s.grid s.edge c))) 0
              (cond (is_outside a s.grid s.edge (cond up (previous_cell a s.grid s.edge c) c)) 0 (flux (sample s f (cond up (previous_cell a s.grid s.edge c) c)) (flow.speed a) flow.den c.level))
          by_way true =
              let v = previous_cell a s.grid s.edge c in
              let out = is_outside a s.grid s.edge v in
              same-barred (flow.closed a) (is_outer s.grid b a u) (is_outside a s.grid s.edge c || out) (u == 0) out
              (flux (seen (one_before u)) (flow.speed a) flow.den b.place.level) (flux (sample s f v) (flow.speed a) flow.den c.level)
              (outer-low ∙ (λ j. sym own_inside j || out))
              (λ h. at-low h ∙ sym (sym outer-low ∙ h))
              (λ h. sym outer-low ∙ h)
              (λ h j. flux (seen-previous h j) (flow.speed a) flow.den (level j))
          by_way false =
              let v = previous_cell a s.grid s.edge c in
              let out = is_outside a s.grid s.edge v in
              same-barred (flow.closed a) (is_outer s.grid b a u) (is_outside a s.grid s.edge c || out) (u == b.edge) (is_outside a s.grid s.edge c)
              (flux (seen (pos u)) (flow.speed a) flow.den b.place.level) (flux (sample s f c) (flow.speed a) flow.den c.level)
              (outer-low ∙ (λ j. sym own_inside j || out))
              (λ h. not-high ∙ sym own_inside)
              (λ h. own_inside)
              (λ h j. flux (seen-own j) (flow.speed a) flow.den (level j))

      -- through the face at which it ends
      pub own-after : own_after s.edge (own_flux flow s.grid b) f a c ≡ upwind_flux s flow f a (next_cell a s.grid s.edge c)
      own-after =
          let v = next_cell a s.grid s.edge c in
          let back = previous_cell-next a s.grid s.edge c in
          by_way (flow.goes_up a)
          ∙ (λ j. cond (flow.closed a && (is_outside a s.grid s.edge v || is_outside a s.grid s.edge (sym back j))) 0
          (cond (is_outside a s.grid s.edge (cond (flow.goes_up a) (sym back j) v)) 0 (flux (sample s f (cond (flow.goes_up a) (sym back j) v)) (flow.speed a) flow.den (sym (next_cell-level a s.grid s.edge c) j))))
        where
          by_way : (up : Bool) → cond (is_outer s.grid b a (u + 1) && (flow.closed a || cond up (u + 1 == 0) (u + 1 == b.edge))) 0 (flux (seen (upwind_side up (u + 1))) (flow.speed a) flow.den b.place.level)
              ≡ cond (flow.closed a && (is_outside a s.grid s.edge (next_cell a s.grid s.edge c) || is_outside a s.grid s.edge c)) 0
              (cond (is_outside a s.grid s.edge (cond up c (next_cell a s.grid s.edge c))) 0 (flux (sample s f (cond up c (next_cell a s.grid s.edge c))) (flow.speed a) flow.den c.level))
          by_way true =
              let out = is_outside a s.grid s.edge (next_cell a s.grid s.edge c) in
              same-barred (flow.closed a) (is_outer s.grid b a (u + 1)) (out || is_outside a s.grid s.edge c) (u + 1 == 0) (is_outside a s.grid s.edge c)
              (flux (seen (one_before (u + 1))) (flow.speed a) flow.den b.place.level) (flux (sample s f c) (flow.speed a) flow.den c.level)
              (outer-high ∙ or-none out (is_outside a s.grid s.edge c) own_inside)
              (λ h. not-low ∙ sym own_inside)
              (λ h. own_inside)
              (λ h. ap (λ t. flux (seen (one_before t)) (flow.speed a) flow.den b.place.level) (let q : u + 1 ≡ suc u = omega arith in q) ∙ (λ j. flux (seen-own j) (flow.speed a) flow.den (level j)))
          by_way false =
              let v = next_cell a s.grid s.edge c in
              let out = is_outside a s.grid s.edge v in
              same-barred (flow.closed a) (is_outer s.grid b a (u + 1)) (out || is_outside a s.grid s.edge c) (u + 1 == b.edge) out
              (flux (seen (pos (u + 1))) (flow.speed a) flow.den b.place.level) (flux (sample s f v) (flow.speed a) flow.den c.level)
              (outer-high ∙ or-none out (is_outside a s.grid s.edge c) own_inside)
              (λ h. at-high h ∙ sym (sym outer-high ∙ h))
              (λ h. sym outer-high ∙ h)
              (λ h j. flux (seen-next h j) (flow.speed a) flow.den (level j))

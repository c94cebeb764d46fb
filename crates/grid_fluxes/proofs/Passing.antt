-- What passes from a cell to the cell after it along an axis: each flux through a face that has a cell on both sides
-- is counted once at each of them.
use Rattle.std.proofs.Common.{◌≡◌, ℕ, ◌+◌, ◌*◌, ◌%◌, ◌<◌, ◌≤◌, Bool, true, false, ◌&&◌, ◌==◌, cond, nat_lt, refl, sym, ap, ◌∙◌, subst, arith, List, Some, slice_get, sum_by, inl, inr}
use Rattle.std.proofs.lemmas.Bool.{cond-true, cond-false, cases_Bool, false_from_ne_true, both_ways, and_parts, ltb-true, eq-eqb, ne_eqb, eqb-true, eqb-false}
use Rattle.block_index.specs.Places.{Cube, Grid, IsDomain, child_of, parent_of, child_number}
use Rattle.leaf_set.specs.Meshes.{IsLeaf, IsMesh, IsBalanced}
use Rattle.leaf_set.specs.MeshLaws.{HasDistinctLeaves}
use Rattle.leaf_set.specs.NextMesh.{children_of}
use Rattle.leaf_set.proofs.Containment.{Contains-parent_of, child_of-child_number, child_number_below, parent_of-child_of}
use Rattle.leaf_set.proofs.MeshFacts.{leaves_distinct}
use Rattle.leaf_set.proofs.NextLeaves.{child_at}
use Rattle.block_fields.specs.Cells.{block_of, cells, is_same, has_cell}
use Rattle.block_fields.specs.Samples.{has_coarser}
use Rattle.block_fields.proofs.Sums.{sum-same, sum-zero, sum-add, sum-exchange}
use Rattle.block_fields.proofs.CellFacts.{is_same-true, same-is_same, block_of-parent_of, has_cell-leaf}
use Rattle.block_fields.proofs.CellSums.{cells-same, sum-one_cell}
use Rattle.block_fields.proofs.Families.{is_parent, children-one, same-sum, children-sum, parent-sum}
use Rattle.block_fields.proofs.Standings.{Standing, here, coarser, finer, all_children, no_children, never_below}
use Rattle.grid_fluxes.proofs.Steps.{IsAlong, next_cell-level, previous_cell-level, previous_cell-next, next_cell-previous, parent-previous, parent-previous_odd, parent-next_odd}
use Rattle.grid_fluxes.proofs.Besides.{leaf_cell-inside, stands_next, stands_previous}
use Rattle.grid_fluxes.proofs.Outside.{along-parent, along-child, inside_from, none_outside}
use Rattle.grid_fluxes.specs.Axes.{Axis, along_x, along_y, along_z, coordinate, next_cell, previous_cell, is_outside, first_children}
use Rattle.grid_fluxes.specs.Fluxes.{has_finer, face_flux}

-- the cell begins where its parent begins
abbrev pub begins : Axis → Cube → Bool
begins a c = coordinate a c % 2 == 0

-- a value for such cells, 0 for others
abbrev pub first : Axis → (Cube → ℕ) → Cube → ℕ
first a v c = cond (begins a c) (v c) 0

even : (x t : ℕ) → cond ((2 * x + 0) % 2 == 0) t 0 ≡ t
even x t = cond-true ((2 * x + 0) % 2 == 0) t 0 (eq-eqb ((2 * x + 0) % 2) 0 (omega arith))

odd : (x t : ℕ) → cond ((2 * x + 1) % 2 == 0) t 0 ≡ 0
odd x t = cond-false ((2 * x + 1) % 2 == 0) t 0 (ne_eqb ((2 * x + 1) % 2) 0 (λ e. omega arith))

first-sum : (a : Axis) (v : Cube → ℕ) (c : Cube) → sum_by (first a v) (children_of c) ≡ sum_by v (first_children a c)
first-sum along_x v c =
    omega (arith, even c.x (v (child_of c 0)), odd c.x (v (child_of c 1)), even c.x (v (child_of c 2)), odd c.x (v (child_of c 3)), even c.x (v (child_of c 4)), odd c.x (v (child_of c 5)), even c.x (v (child_of c 6)), odd c.x (v (child_of c 7)))
first-sum along_y v c =
    omega (arith, even c.y (v (child_of c 0)), even c.y (v (child_of c 1)), odd c.y (v (child_of c 2)), odd c.y (v (child_of c 3)), even c.y (v (child_of c 4)), even c.y (v (child_of c 5)), odd c.y (v (child_of c 6)), odd c.y (v (child_of c 7)))
first-sum along_z v c =
    omega (arith, even c.z (v (child_of c 0)), even c.z (v (child_of c 1)), even c.z (v (child_of c 2)), even c.z (v (child_of c 3)), odd c.z (v (child_of c 4)), odd c.z (v (child_of c 5)), odd c.z (v (child_of c 6)), odd c.z (v (child_of c 7)))

begins-or : (a : Axis) (c : Cube) → begins a c ≡ false → coordinate a c % 2 ≡ 1
begins-or a c h = one (coordinate a c) (eqb-false (coordinate a c % 2) 0 h)
  where
    one : (x : ℕ) → (x % 2 ≡ 0 → ⊥) → x % 2 ≡ 1
    one x n = omega arith

pub three_sums : {A : Type 0} (f g h : A → ℕ) (xs : List A) → sum_by (λ x. f x + g x + h x) xs ≡ sum_by f xs + sum_by g xs + sum_by h xs
three_sums f g h xs = sum-add (λ x. f x + g x) h xs ∙ ap (λ n. n + sum_by h xs) (sum-add f g xs)

module _ (grid : Grid) (leaves : List Cube) (g : IsDomain grid) (m : IsMesh grid leaves) (balanced : IsBalanced grid leaves) (n : ℕ) (edge : 2 ≤ n) (a : Axis) (v : Cube → ℕ) where
  some : 0 < n
  some = omega arith

  distinct : HasDistinctLeaves leaves
  distinct = leaves_distinct grid leaves g m

  next : Cube → Cube
  next c = next_cell a grid n c

  last : Cube → Cube
  last c = previous_cell a grid n c

  -- what passes from c to d: through a face of their level; or through one of the faces of a finer d, or a finer c
  abbrev pass : Cube → Cube → ℕ
  pass c d =
      cond (is_same (next_cell a grid n c) d) (v d) 0
      + cond (is_parent (next_cell a grid n c) d) (first a v d) 0
      + cond (is_parent d (next_cell a grid n c)) (first a v (next_cell a grid n c)) 0

  -- ---- from the lower cell

  pass-out : (c : Cube) → sum_by (pass c) (cells n leaves) ≡ cond (has_cell n leaves (next_cell a grid n c)) (v (next_cell a grid n c)) 0 + sum_by (λ e. cond (has_cell n leaves e) (first a v e) 0) (children_of (next_cell a grid n c)) + cond (has_coarser n leaves (next_cell a grid n c)) (first a v (next_cell a grid n c)) 0
  pass-out c =
      let u = next_cell a grid n c in
      let f : Cube → ℕ = λ d. cond (is_same u d) (v d) 0 in
      let h : Cube → ℕ = λ d. cond (is_parent u d) (first a v d) 0 in
      let k : Cube → ℕ = λ d. cond (is_parent d u) (first a v u) 0 in
      omega (arith, three_sums f h k (cells n leaves), same-sum n some leaves distinct u v, children-sum n some leaves distinct u (first a v), parent-sum n some leaves distinct u (first a v u))

  -- the leaf's cell c and the cell u beside it have different parents where a coarser leaf holds u
  apart_parents : (c u : Cube) (i : ℕ) → slice_get leaves i ≡ Some (block_of n c) → u.level ≡ c.level → has_coarser n leaves u ≡ true → parent_of u ≡ parent_of c → ⊥
  apart_parents c u i at level h e =
      let p = and_parts (nat_lt 0 u.level) (has_cell n leaves (parent_of u)) h in
      let l : 0 < c.level = subst (λ k. 0 < k) level (ltb-true 0 u.level p.0) in
      let leaf : IsLeaf leaves (parent_of (block_of n c)) = subst (IsLeaf leaves) (ap (block_of n) e ∙ block_of-parent_of n c) (has_cell-leaf n leaves (parent_of u) p.1) in
      never_below grid leaves g m n 1 (parent_of (block_of n c)) (block_of n c) (omega arith) leaf (i, at) (Contains-parent_of (block_of n c) l)

  pub pass-from : (c : Cube) (i : ℕ) → slice_get leaves i ≡ Some (block_of n c) → sum_by (pass c) (cells n leaves) ≡ cond (is_outside a grid n (next_cell a grid n c)) 0 (face_flux (has_finer n leaves (next_cell a grid n c)) v a (next_cell a grid n c))
  pass-from c i at =
      let u = next_cell a grid n c in
      elim (cases_Bool (is_outside a grid n u)) [
        | inl out ↦
            let w = none_outside a grid leaves m n some u out in
            omega (arith, pass-out c, cond-false (has_cell n leaves u) (v u) 0 w.0, no_children n leaves u (first a v) w.2, cond-false (has_coarser n leaves u) (first a v u) 0 w.1, cond-true (is_outside a grid n u) 0 (face_flux (has_finer n leaves u) v a u) out)
        | inr inside ↦
            standing u (stands_next grid leaves g m balanced n edge a c i at (inside_from a grid n u inside)) (pass-out c)
            (λ h. elim (cases_Bool (begins a u)) [
              | inl b ↦ b
              | inr o ↦ absurd (apart_parents c u i at (next_cell-level a grid n c) h (parent-next_odd a grid n c (inside_from a grid n u inside) (begins-or a u o)))
            ])
            ∙ sym (cond-false (is_outside a grid n u) 0 (face_flux (has_finer n leaves u) v a u) inside)
      ]
    where
      standing : (u : Cube) → Standing n leaves u → {s : ℕ} → s ≡ cond (has_cell n leaves u) (v u) 0 + sum_by (λ e. cond (has_cell n leaves e) (first a v e) 0) (children_of u) + cond (has_coarser n leaves u) (first a v u) 0 → (has_coarser n leaves u ≡ true → begins a u ≡ true) → s ≡ face_flux (has_finer n leaves u) v a u
      standing u (here p q r) e b =
          omega (arith, e, cond-true (has_cell n leaves u) (v u) 0 p, no_children n leaves u (first a v) r, cond-false (has_coarser n leaves u) (first a v u) 0 q, cond-false (has_finer n leaves u) (sum_by v (first_children a u)) (v u) (r 0 (omega arith)))
      standing u (coarser p q r) e b =
          omega (arith, e, cond-false (has_cell n leaves u) (v u) 0 p, no_children n leaves u (first a v) r, cond-true (has_coarser n leaves u) (first a v u) 0 q, cond-true (begins a u) (v u) 0 (b q), cond-false (has_finer n leaves u) (sum_by v (first_children a u)) (v u) (r 0 (omega arith)))
      standing u (finer p q r) e b =
          omega (arith, e, cond-false (has_cell n leaves u) (v u) 0 p, all_children n leaves u (first a v) r, first-sum a v u, cond-false (has_coarser n leaves u) (first a v u) 0 q, cond-true (has_finer n leaves u) (sum_by v (first_children a u)) (v u) (r 0 (omega arith)))

  -- ---- from the upper cell

  same_step : (c d : Cube) → IsAlong a grid n c → IsAlong a grid n d → is_same (next_cell a grid n c) d ≡ is_same c (previous_cell a grid n d)
  same_step c d h k =
      elim (cases_Bool (is_same (next_cell a grid n c) d)) [
        | inl s ↦
            let e : next_cell a grid n c ≡ d = is_same-true (next_cell a grid n c) d s in
            let back : c ≡ previous_cell a grid n d = sym (previous_cell-next a grid n c) ∙ ap (previous_cell a grid n) e in
            s ∙ sym (same-is_same c (previous_cell a grid n d) back)
        | inr f ↦
            f ∙ sym (false_from_ne_true (is_same c (previous_cell a grid n d)) (λ s.
            let e : c ≡ previous_cell a grid n d = is_same-true c (previous_cell a grid n d) s in
            let forth : next_cell a grid n c ≡ d = ap (next_cell a grid n) e ∙ next_cell-previous a grid n d k (subst (IsAlong a grid n) e h) in
            both_ways (is_same (next_cell a grid n c) d) f (same-is_same (next_cell a grid n c) d forth)))
      ]

  step-sum : (d : Cube) (t : ℕ) → IsAlong a grid n d → sum_by (λ c. cond (is_same (next_cell a grid n c) d) t 0) (cells n leaves) ≡ cond (has_cell n leaves (previous_cell a grid n d)) t 0
  step-sum d t k =
      cells-same n leaves (λ c. cond (is_same (next_cell a grid n c) d) t 0) (λ c. cond (is_same c (previous_cell a grid n d)) t 0) some (λ i b c s e.
      ap (λ q. cond q t 0) (same_step c d (leaf_cell-inside a grid n c some (m.inside i (block_of n c) (s ∙ ap Some (sym e)))) k))
      ∙ sum-one_cell n some (previous_cell a grid n d) t leaves distinct

  step-parent_sum : (d : Cube) (t : ℕ) → IsAlong a grid n d → sum_by (λ c. cond (is_parent (next_cell a grid n c) d) t 0) (cells n leaves) ≡ cond (nat_lt 0 d.level && has_cell n leaves (previous_cell a grid n (parent_of d))) t 0
  step-parent_sum d t k =
      elim (cases_Bool (nat_lt 0 d.level)) [
        | inl some_level ↦
            sum-same (λ c. cond (is_parent (next_cell a grid n c) d) t 0) (λ c. cond (is_same (next_cell a grid n c) (parent_of d)) t 0) (cells n leaves) (λ i c e. ap (λ b. cond (b && is_same (next_cell a grid n c) (parent_of d)) t 0) some_level)
            ∙ step-sum (parent_of d) t (along-parent a grid n d (ltb-true 0 d.level some_level) k)
            ∙ ap (λ b. cond (b && has_cell n leaves (previous_cell a grid n (parent_of d))) t 0) (sym some_level)
        | inr root ↦
            sum-zero (λ c. cond (is_parent (next_cell a grid n c) d) t 0) (cells n leaves) (λ i c e. ap (λ b. cond (b && is_same (next_cell a grid n c) (parent_of d)) t 0) root)
            ∙ ap (λ b. cond (b && has_cell n leaves (previous_cell a grid n (parent_of d))) t 0) (sym root)
      ]

  step-children_sum : (d : Cube) → IsAlong a grid n d → sum_by (λ c. cond (is_parent d (next_cell a grid n c)) (first a v (next_cell a grid n c)) 0) (cells n leaves) ≡ sum_by (λ e. cond (has_cell n leaves (previous_cell a grid n e)) (first a v e) 0) (children_of d)
  step-children_sum d k =
      sum-same (λ c. cond (is_parent d (next_cell a grid n c)) (first a v (next_cell a grid n c)) 0) (λ c. sum_by (λ e. cond (is_same (next_cell a grid n c) e) (first a v e) 0) (children_of d)) (cells n leaves) (λ i c e. sym (children-one d (next_cell a grid n c) (first a v)))
      ∙ sum-exchange (λ c e. cond (is_same (next_cell a grid n c) e) (first a v e) 0) (cells n leaves) (children_of d)
      ∙ sum-same (λ e. sum_by (λ c. cond (is_same (next_cell a grid n c) e) (first a v e) 0) (cells n leaves)) (λ e. cond (has_cell n leaves (previous_cell a grid n e)) (first a v e) 0) (children_of d) (λ i e s.
      let w = child_at d e i s in
      step-sum e (first a v e) (subst (IsAlong a grid n) (sym w.1) (along-child a grid n d i w.0 k)))

  -- the parent's term, by the cell before
  parent_term : (d : Cube) → cond (nat_lt 0 d.level && has_cell n leaves (previous_cell a grid n (parent_of d))) (first a v d) 0 ≡ cond (has_coarser n leaves (previous_cell a grid n d)) (first a v d) 0
  parent_term d =
      elim (cases_Bool (begins a d)) [
        | inl b ↦
            elim (cases_Bool (nat_lt 0 d.level)) [
              | inl l ↦
                  let e : parent_of (previous_cell a grid n d) ≡ previous_cell a grid n (parent_of d) = parent-previous a grid n d (ltb-true 0 d.level l) (eqb-true (coordinate a d % 2) 0 b) in
                  ap (λ c. cond (nat_lt 0 d.level && has_cell n leaves c) (first a v d) 0) (sym e)
                  ∙ ap (λ k. cond (nat_lt 0 k && has_cell n leaves (parent_of (previous_cell a grid n d))) (first a v d) 0) (sym (previous_cell-level a grid n d))
              | inr root ↦
                  ap (λ q. cond (q && has_cell n leaves (previous_cell a grid n (parent_of d))) (first a v d) 0) root
                  ∙ sym (ap (λ k. cond (nat_lt 0 k && has_cell n leaves (parent_of (previous_cell a grid n d))) (first a v d) 0) (previous_cell-level a grid n d) ∙ ap (λ q. cond (q && has_cell n leaves (parent_of (previous_cell a grid n d))) (first a v d) 0) root)
            ]
        | inr o ↦
            let z : first a v d ≡ 0 = cond-false (begins a d) (v d) 0 o in
            none (first a v d) z (nat_lt 0 d.level && has_cell n leaves (previous_cell a grid n (parent_of d))) ∙ sym (none (first a v d) z (has_coarser n leaves (previous_cell a grid n d)))
      ]
    where
      none : (t : ℕ) → t ≡ 0 → (q : Bool) → cond q t 0 ≡ 0
      none t z true = z
      none t z false = refl

  -- before a child that begins where d begins lies a child of the cell before d
  child_previous : (d : Cube) (k : ℕ) → k < 8 → begins a (child_of d k) ≡ true → (j : ℕ) × (j < 8) × (previous_cell a grid n (child_of d k) ≡ child_of (previous_cell a grid n d) j)
  child_previous d k h b =
      let e = child_of d k in
      let u = previous_cell a grid n e in
      let up : parent_of u ≡ previous_cell a grid n d = parent-previous a grid n e (omega arith) (eqb-true (coordinate a e % 2) 0 b) ∙ ap (previous_cell a grid n) (parent_of-child_of d k h) in
      let l : 1 ≤ u.level = subst (λ q. 1 ≤ q) (sym (previous_cell-level a grid n e)) (omega arith) in
      (child_number u, child_number_below u, sym (child_of-child_number (parent_of u) u (Contains-parent_of u l)) ∙ ap (λ q. child_of q (child_number u)) up)

  children_term : (d : Cube) (b : Bool) → ((j : ℕ) → j < 8 → has_cell n leaves (child_of (previous_cell a grid n d) j) ≡ b) → sum_by (λ e. cond (has_cell n leaves (previous_cell a grid n e)) (first a v e) 0) (children_of d) ≡ cond b (sum_by v (first_children a d)) 0
  children_term d true h =
      sum-same (λ e. cond (has_cell n leaves (previous_cell a grid n e)) (first a v e) 0) (first a v) (children_of d) (λ i e s.
      let w = child_at d e i s in
      subst (λ e. cond (has_cell n leaves (previous_cell a grid n e)) (first a v e) 0 ≡ first a v e) (sym w.1) (one i w.0))
      ∙ first-sum a v d
    where
      zeros : (q : Bool) (t : ℕ) → t ≡ 0 → cond q t 0 ≡ t
      zeros true t z = refl
      zeros false t z = sym z

      one : (i : ℕ) → i < 8 → cond (has_cell n leaves (previous_cell a grid n (child_of d i))) (first a v (child_of d i)) 0 ≡ first a v (child_of d i)
      one i l =
          elim (cases_Bool (begins a (child_of d i))) [
            | inl b ↦
                let w = child_previous d i l b in
                cond-true (has_cell n leaves (previous_cell a grid n (child_of d i))) (first a v (child_of d i)) 0 (ap (has_cell n leaves) w.2 ∙ h w.0 w.1)
            | inr o ↦ zeros (has_cell n leaves (previous_cell a grid n (child_of d i))) (first a v (child_of d i)) (cond-false (begins a (child_of d i)) (v (child_of d i)) 0 o)
          ]
  children_term d false h =
      sum-zero (λ e. cond (has_cell n leaves (previous_cell a grid n e)) (first a v e) 0) (children_of d) (λ i e s.
      let w = child_at d e i s in
      subst (λ e. cond (has_cell n leaves (previous_cell a grid n e)) (first a v e) 0 ≡ 0) (sym w.1) (one i w.0))
    where
      zeros : (q : Bool) (t : ℕ) → t ≡ 0 → cond q t 0 ≡ 0
      zeros true t z = z
      zeros false t z = refl

      one : (i : ℕ) → i < 8 → cond (has_cell n leaves (previous_cell a grid n (child_of d i))) (first a v (child_of d i)) 0 ≡ 0
      one i l =
          elim (cases_Bool (begins a (child_of d i))) [
            | inl b ↦
                let w = child_previous d i l b in
                cond-false (has_cell n leaves (previous_cell a grid n (child_of d i))) (first a v (child_of d i)) 0 (ap (has_cell n leaves) w.2 ∙ h w.0 w.1)
            | inr o ↦ zeros (has_cell n leaves (previous_cell a grid n (child_of d i))) (first a v (child_of d i)) (cond-false (begins a (child_of d i)) (v (child_of d i)) 0 o)
          ]

  pass-in : (d : Cube) → IsAlong a grid n d → sum_by (λ c. pass c d) (cells n leaves) ≡ cond (has_cell n leaves (previous_cell a grid n d)) (v d) 0 + cond (has_coarser n leaves (previous_cell a grid n d)) (first a v d) 0 + sum_by (λ e. cond (has_cell n leaves (previous_cell a grid n e)) (first a v e) 0) (children_of d)
  pass-in d k =
      let f : Cube → ℕ = λ c. cond (is_same (next_cell a grid n c) d) (v d) 0 in
      let h : Cube → ℕ = λ c. cond (is_parent (next_cell a grid n c) d) (first a v d) 0 in
      let w : Cube → ℕ = λ c. cond (is_parent d (next_cell a grid n c)) (first a v (next_cell a grid n c)) 0 in
      omega (arith, three_sums f h w (cells n leaves), step-sum d (v d) k, step-parent_sum d (first a v d) k, parent_term d, step-children_sum d k)

  pub pass-to : (d : Cube) (i : ℕ) → slice_get leaves i ≡ Some (block_of n d) → sum_by (λ c. pass c d) (cells n leaves) ≡ cond (is_outside a grid n (previous_cell a grid n d)) 0 (face_flux (has_finer n leaves (previous_cell a grid n d)) v a d)
  pass-to d i at =
      let u = previous_cell a grid n d in
      let k = leaf_cell-inside a grid n d some (m.inside i (block_of n d) at) in
      elim (cases_Bool (is_outside a grid n u)) [
        | inl out ↦
            let w = none_outside a grid leaves m n some u out in
            omega (arith, pass-in d k, cond-false (has_cell n leaves u) (v d) 0 w.0, cond-false (has_coarser n leaves u) (first a v d) 0 w.1, children_term d false w.2, cond-true (is_outside a grid n u) 0 (face_flux (has_finer n leaves u) v a d) out)
        | inr inside ↦
            standing (stands_previous grid leaves g m balanced n edge a d i at (inside_from a grid n u inside)) (pass-in d k)
            (λ h. elim (cases_Bool (begins a d)) [
              | inl b ↦ b
              | inr o ↦ absurd (apart_parents d u i at (previous_cell-level a grid n d) h (parent-previous_odd a grid n d (begins-or a d o)))
            ])
            ∙ sym (cond-false (is_outside a grid n u) 0 (face_flux (has_finer n leaves u) v a d) inside)
      ]
    where
      standing : Standing n leaves (previous_cell a grid n d) → {s : ℕ} → s ≡ cond (has_cell n leaves (previous_cell a grid n d)) (v d) 0 + cond (has_coarser n leaves (previous_cell a grid n d)) (first a v d) 0 + sum_by (λ e. cond (has_cell n leaves (previous_cell a grid n e)) (first a v e) 0) (children_of d) → (has_coarser n leaves (previous_cell a grid n d) ≡ true → begins a d ≡ true) → s ≡ face_flux (has_finer n leaves (previous_cell a grid n d)) v a d
      standing (here p q r) e b =
          let u = previous_cell a grid n d in
          omega (arith, e, cond-true (has_cell n leaves u) (v d) 0 p, cond-false (has_coarser n leaves u) (first a v d) 0 q, children_term d false r, cond-false (has_finer n leaves u) (sum_by v (first_children a d)) (v d) (r 0 (omega arith)))
      standing (coarser p q r) e b =
          let u = previous_cell a grid n d in
          omega (arith, e, cond-false (has_cell n leaves u) (v d) 0 p, cond-true (has_coarser n leaves u) (first a v d) 0 q, cond-true (begins a d) (v d) 0 (b q), children_term d false r, cond-false (has_finer n leaves u) (sum_by v (first_children a d)) (v d) (r 0 (omega arith)))
      standing (finer p q r) e b =
          let u = previous_cell a grid n d in
          omega (arith, e, cond-false (has_cell n leaves u) (v d) 0 p, cond-false (has_coarser n leaves u) (first a v d) 0 q, children_term d true r, cond-true (has_finer n leaves u) (sum_by v (first_children a d)) (v d) (r 0 (omega arith)))

  -- ---- over all cells

  pub passes : sum_by (λ c. cond (is_outside a grid n (next_cell a grid n c)) 0 (face_flux (has_finer n leaves (next_cell a grid n c)) v a (next_cell a grid n c))) (cells n leaves) ≡ sum_by (λ d. cond (is_outside a grid n (previous_cell a grid n d)) 0 (face_flux (has_finer n leaves (previous_cell a grid n d)) v a d)) (cells n leaves)
  passes =
      let from : Cube → ℕ = λ c. cond (is_outside a grid n (next_cell a grid n c)) 0 (face_flux (has_finer n leaves (next_cell a grid n c)) v a (next_cell a grid n c)) in
      let to : Cube → ℕ = λ d. cond (is_outside a grid n (previous_cell a grid n d)) 0 (face_flux (has_finer n leaves (previous_cell a grid n d)) v a d) in
      cells-same n leaves from (λ c. sum_by (pass c) (cells n leaves)) some (λ i b c s e. sym (pass-from c i (s ∙ ap Some (sym e))))
      ∙ sum-exchange pass (cells n leaves) (cells n leaves)
      ∙ cells-same n leaves (λ d. sum_by (λ c. pass c d) (cells n leaves)) to some (λ i b d s e. pass-to d i (s ∙ ap Some (sym e)))

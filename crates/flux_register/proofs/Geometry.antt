-- Cells on both sides of a face at which a coarse block ends or begins, and the finer blocks across.
use Rattle.std.proofs.Common.{◌≡◌, ℕ, ◌+◌, ◌-◌, ◌*◌, ◌/◌, ◌%◌, ◌^◌, ◌<◌, ◌≤◌, [], ◌∷◌, refl, sym, ap, ◌∙◌, subst, arith, sum_by}
use Rattle.std.proofs.lemmas.List.Sums.{sum_by-cons}
use Rattle.block_index.specs.Places.{Cube, Grid, IsInside, parent_of}
use Rattle.leaf_set.proofs.Containment.{same_cube}
use Rattle.block_fields.specs.Cells.{block_of}
use Rattle.grid_fluxes.specs.Axes.{Axis, along_x, along_y, along_z, coordinate, first_children, next_cell, previous_cell, next_coordinate, previous_coordinate}
use Rattle.grid_fluxes.proofs.Coordinates.{twice_along}
use Rattle.advect.specs.Coordinates.{across_first, across_second}
use Rattle.flux_register.proofs.Coordinates.{across, along-end, along-low}

-- the coordinates across an axis
abbrev pub first : Axis → Cube → ℕ
first a c = across_first a c.x c.y c.z

abbrev pub second : Axis → Cube → ℕ
second a c = across_second a c.x c.y c.z

-- a cube is told by its level and these
pub by_axis : (a : Axis) (c d : Cube) → c.level ≡ d.level → coordinate a c ≡ coordinate a d → first a c ≡ first a d → second a c ≡ second a d → c ≡ d
by_axis along_x c d l u v w = same_cube c d l u v w
by_axis along_y c d l u v w = same_cube c d l v u w
by_axis along_z c d l u v w = same_cube c d l v w u

pub block-coordinate : (a : Axis) (n : ℕ) (c : Cube) → coordinate a (block_of n c) ≡ coordinate a c / n
block-coordinate along_x n c = refl
block-coordinate along_y n c = refl
block-coordinate along_z n c = refl

pub block-first : (a : Axis) (n : ℕ) (c : Cube) → first a (block_of n c) ≡ first a c / n
block-first along_x n c = refl
block-first along_y n c = refl
block-first along_z n c = refl

pub block-second : (a : Axis) (n : ℕ) (c : Cube) → second a (block_of n c) ≡ second a c / n
block-second along_x n c = refl
block-second along_y n c = refl
block-second along_z n c = refl

-- the child of a cell with these bits along the axis and across it
abbrev pub fine : Axis → Cube → ℕ → ℕ → ℕ → Cube
fine along_x v e b d = record { level = v.level + 1; x = 2 * v.x + e; y = 2 * v.y + b; z = 2 * v.z + d }
fine along_y v e b d = record { level = v.level + 1; x = 2 * v.x + b; y = 2 * v.y + e; z = 2 * v.z + d }
fine along_z v e b d = record { level = v.level + 1; x = 2 * v.x + b; y = 2 * v.y + d; z = 2 * v.z + e }

pub four-children : (a : Axis) (v : Cube) → first_children a v ≡ fine a v 0 0 0 ∷ fine a v 0 1 0 ∷ fine a v 0 0 1 ∷ fine a v 0 1 1 ∷ []
four-children along_x v = refl
four-children along_y v = refl
four-children along_z v = refl

pub sum-four : {X : Type 0} (g : X → ℕ) (p q r s : X) → sum_by g (p ∷ q ∷ r ∷ s ∷ []) ≡ g p + g q + g r + g s
sum-four g p q r s =
    let a = sum_by-cons g p (q ∷ r ∷ s ∷ []) in
    let b = sum_by-cons g q (r ∷ s ∷ []) in
    let c = sum_by-cons g r (s ∷ []) in
    let d = sum_by-cons g s [] in
    let e : sum_by g [] ≡ 0 = refl in
    omega (arith, a, b, c, d, e)

-- a finer cell lies in the block p, at these coordinates in it
pub record LiesIn (a : Axis) (n : ℕ) (p w : Cube) (u i j : ℕ) : Type 0 where
  pub place : block_of n w ≡ p
  pub along : coordinate a w % n ≡ u
  pub first : first a w % n ≡ i
  pub second : second a w % n ≡ j

module _ (grid : Grid) (n h : ℕ) (even : n ≡ 2 * h) (some : 1 ≤ h) (q p c : Cube) (own : block_of n c ≡ q) (finer : p.level ≡ q.level + 1) where
  some_n : 0 < n
  some_n = omega (arith, even, some)

  level_c : c.level ≡ q.level
  level_c = ap (λ (x : Cube). x.level) own

  own-coordinate : (a : Axis) → coordinate a c / n ≡ coordinate a q
  own-coordinate a = sym (block-coordinate a n c) ∙ ap (coordinate a) own

  own-first : (a : Axis) → first a c / n ≡ first a q
  own-first a = sym (block-first a n c) ∙ ap (first a) own

  own-second : (a : Axis) → second a c / n ≡ second a q
  own-second a = sym (block-second a n c) ∙ ap (second a) own

  -- past the end
  module _ (b d : ℕ) (bit_b : b < 2) (bit_d : d < 2) where
    pub fine-end : (a : Axis) → parent_of p ≡ next_cell a grid 1 q → coordinate a p % 2 ≡ 0 → coordinate a c % n ≡ n - 1 → first a c % n / h ≡ first a p % 2 → second a c % n / h ≡ second a p % 2
        → LiesIn a n p (fine a (next_cell a grid n c) 0 b d) 0 (2 * (first a c % n % h) + b) (2 * (second a c % n % h) + d)
    fine-end along_x beside near last half_i half_j =
        let level : q.level ≡ c.level = sym level_c in
        let u = along-end grid.wraps_x (grid.trees_x * 2 ^ c.level) n q.x p.x c.x some_n (own-coordinate along_x) last (ap (λ (x : Cube). x.x) beside ∙ ap (λ (l : ℕ). next_coordinate grid.wraps_x (grid.trees_x * 2 ^ l * 1) q.x) level) near in
        let i = across n h q.y p.y c.y b even some bit_b (own-first along_x) (ap (λ (x : Cube). x.y) beside) half_i in
        let j = across n h q.z p.z c.z d even some bit_d (own-second along_x) (ap (λ (x : Cube). x.z) beside) half_j in
        record { place = same_cube (block_of n (fine along_x (next_cell along_x grid n c) 0 b d)) p (omega (arith, level_c, finer)) u.0 i.0 j.0; along = u.1; first = i.1; second = j.1 }
    fine-end along_y beside near last half_i half_j =
        let level : q.level ≡ c.level = sym level_c in
        let u = along-end grid.wraps_y (grid.trees_y * 2 ^ c.level) n q.y p.y c.y some_n (own-coordinate along_y) last (ap (λ (x : Cube). x.y) beside ∙ ap (λ (l : ℕ). next_coordinate grid.wraps_y (grid.trees_y * 2 ^ l * 1) q.y) level) near in
        let i = across n h q.x p.x c.x b even some bit_b (own-first along_y) (ap (λ (x : Cube). x.x) beside) half_i in
        let j = across n h q.z p.z c.z d even some bit_d (own-second along_y) (ap (λ (x : Cube). x.z) beside) half_j in
        record { place = same_cube (block_of n (fine along_y (next_cell along_y grid n c) 0 b d)) p (omega (arith, level_c, finer)) i.0 u.0 j.0; along = u.1; first = i.1; second = j.1 }
    fine-end along_z beside near last half_i half_j =
        let level : q.level ≡ c.level = sym level_c in
        let u = along-end grid.wraps_z (grid.trees_z * 2 ^ c.level) n q.z p.z c.z some_n (own-coordinate along_z) last (ap (λ (x : Cube). x.z) beside ∙ ap (λ (l : ℕ). next_coordinate grid.wraps_z (grid.trees_z * 2 ^ l * 1) q.z) level) near in
        let i = across n h q.x p.x c.x b even some bit_b (own-first along_z) (ap (λ (x : Cube). x.x) beside) half_i in
        let j = across n h q.y p.y c.y d even some bit_d (own-second along_z) (ap (λ (x : Cube). x.y) beside) half_j in
        record { place = same_cube (block_of n (fine along_z (next_cell along_z grid n c) 0 b d)) p (omega (arith, level_c, finer)) i.0 j.0 u.0; along = u.1; first = i.1; second = j.1 }

    double : (t l m : ℕ) → m ≡ l + 1 → t * 2 ^ m * n ≡ 2 * (t * 2 ^ l) * n
    double t l m e = ap (λ (k : ℕ). t * 2 ^ k * n) e ∙ (twice_along t n l ∙ (let f : 2 * (t * 2 ^ l * n) ≡ 2 * (t * 2 ^ l) * n = omega arith in f))

    twice : (t l m : ℕ) → m ≡ l + 1 → t * 2 ^ m ≡ 2 * (t * 2 ^ l)
    twice t l m e = (let a : t * 2 ^ m ≡ t * 2 ^ m * 1 = omega arith in a) ∙ (ap (λ (k : ℕ). t * 2 ^ k * 1) e ∙ (twice_along t 1 l ∙ (let f : 2 * (t * 2 ^ l * 1) ≡ 2 * (t * 2 ^ l) = omega arith in f)))

    -- before the beginning, and the first finer cell in the coarse cell before it
    pub fine-low : (a : Axis) → IsInside grid q → IsInside grid p → parent_of p ≡ previous_cell a grid 1 q → coordinate a p % 2 ≡ 1 → coordinate a c % n ≡ 0 → first a c % n / h ≡ first a p % 2 → second a c % n / h ≡ second a p % 2
        → LiesIn a n p (previous_cell a grid n (fine a c 0 b d)) (n - 1) (2 * (first a c % n % h) + b) (2 * (second a c % n % h) + d) × (block_of n (fine a (previous_cell a grid n c) 0 b d) ≡ p)
    fine-low along_x in_q in_p beside near begins half_i half_j =
        let level : q.level ≡ c.level = sym level_c in
        let k = grid.trees_x * 2 ^ c.level in
        let within : q.x < k = subst (λ (l : ℕ). q.x < grid.trees_x * 2 ^ l) level in_q.x in
        let inside : p.x < 2 * k = (let e = twice grid.trees_x c.level p.level (omega (arith, finer, level_c)) in omega (arith, in_p.x, e)) in
        let u = along-low grid.wraps_x k n q.x p.x c.x (omega (arith, even, some)) (own-coordinate along_x) begins within (ap (λ (x : Cube). x.x) beside ∙ ap (λ (l : ℕ). previous_coordinate grid.wraps_x (grid.trees_x * 2 ^ l * 1) q.x) level) near inside in
        let e : grid.trees_x * 2 ^ (c.level + 1) * n ≡ 2 * k * n = double grid.trees_x c.level (c.level + 1) refl in
        let i = across n h q.y p.y c.y b even some bit_b (own-first along_x) (ap (λ (x : Cube). x.y) beside) half_i in
        let j = across n h q.z p.z c.z d even some bit_d (own-second along_x) (ap (λ (x : Cube). x.z) beside) half_j in (
          record {
            place = same_cube (block_of n (previous_cell along_x grid n (fine along_x c 0 b d))) p (omega (arith, level_c, finer)) (ap (λ (m : ℕ). previous_coordinate grid.wraps_x m (2 * c.x + 0) / n) e ∙ u.0) i.0 j.0;
            along = ap (λ (m : ℕ). previous_coordinate grid.wraps_x m (2 * c.x + 0) % n) e ∙ u.1;
            first = i.1;
            second = j.1;
          },
          same_cube (block_of n (fine along_x (previous_cell along_x grid n c) 0 b d)) p (omega (arith, level_c, finer)) u.2 i.0 j.0,
        )
    fine-low along_y in_q in_p beside near begins half_i half_j =
        let level : q.level ≡ c.level = sym level_c in
        let k = grid.trees_y * 2 ^ c.level in
        let within : q.y < k = subst (λ (l : ℕ). q.y < grid.trees_y * 2 ^ l) level in_q.y in
        let inside : p.y < 2 * k = (let e = twice grid.trees_y c.level p.level (omega (arith, finer, level_c)) in omega (arith, in_p.y, e)) in
        let u = along-low grid.wraps_y k n q.y p.y c.y (omega (arith, even, some)) (own-coordinate along_y) begins within (ap (λ (x : Cube). x.y) beside ∙ ap (λ (l : ℕ). previous_coordinate grid.wraps_y (grid.trees_y * 2 ^ l * 1) q.y) level) near inside in
        let e : grid.trees_y * 2 ^ (c.level + 1) * n ≡ 2 * k * n = double grid.trees_y c.level (c.level + 1) refl in
        let i = across n h q.x p.x c.x b even some bit_b (own-first along_y) (ap (λ (x : Cube). x.x) beside) half_i in
        let j = across n h q.z p.z c.z d even some bit_d (own-second along_y) (ap (λ (x : Cube). x.z) beside) half_j in (
          record {
            place = same_cube (block_of n (previous_cell along_y grid n (fine along_y c 0 b d))) p (omega (arith, level_c, finer)) i.0 (ap (λ (m : ℕ). previous_coordinate grid.wraps_y m (2 * c.y + 0) / n) e ∙ u.0) j.0;
            along = ap (λ (m : ℕ). previous_coordinate grid.wraps_y m (2 * c.y + 0) % n) e ∙ u.1;
            first = i.1;
            second = j.1;
          },
          same_cube (block_of n (fine along_y (previous_cell along_y grid n c) 0 b d)) p (omega (arith, level_c, finer)) i.0 u.2 j.0,
        )
    fine-low along_z in_q in_p beside near begins half_i half_j =
        let level : q.level ≡ c.level = sym level_c in
        let k = grid.trees_z * 2 ^ c.level in
        let within : q.z < k = subst (λ (l : ℕ). q.z < grid.trees_z * 2 ^ l) level in_q.z in
        let inside : p.z < 2 * k = (let e = twice grid.trees_z c.level p.level (omega (arith, finer, level_c)) in omega (arith, in_p.z, e)) in
        let u = along-low grid.wraps_z k n q.z p.z c.z (omega (arith, even, some)) (own-coordinate along_z) begins within (ap (λ (x : Cube). x.z) beside ∙ ap (λ (l : ℕ). previous_coordinate grid.wraps_z (grid.trees_z * 2 ^ l * 1) q.z) level) near inside in
        let e : grid.trees_z * 2 ^ (c.level + 1) * n ≡ 2 * k * n = double grid.trees_z c.level (c.level + 1) refl in
        let i = across n h q.x p.x c.x b even some bit_b (own-first along_z) (ap (λ (x : Cube). x.x) beside) half_i in
        let j = across n h q.y p.y c.y d even some bit_d (own-second along_z) (ap (λ (x : Cube). x.y) beside) half_j in (
          record {
            place = same_cube (block_of n (previous_cell along_z grid n (fine along_z c 0 b d))) p (omega (arith, level_c, finer)) i.0 j.0 (ap (λ (m : ℕ). previous_coordinate grid.wraps_z m (2 * c.z + 0) / n) e ∙ u.0);
            along = ap (λ (m : ℕ). previous_coordinate grid.wraps_z m (2 * c.z + 0) % n) e ∙ u.1;
            first = i.1;
            second = j.1;
          },
          same_cube (block_of n (fine along_z (previous_cell along_z grid n c) 0 b d)) p (omega (arith, level_c, finer)) i.0 j.0 u.2,
        )

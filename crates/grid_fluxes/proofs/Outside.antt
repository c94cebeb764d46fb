-- Cells inside and outside the domain along an axis: their parents and children, and that no leaf holds one outside.
use Rattle.std.proofs.Common.{◌≡◌, ℕ, zero, suc, ◌+◌, ◌-◌, ◌*◌, ◌/◌, ◌%◌, ◌^◌, ◌<◌, ◌≤◌, true, false, nat_lt, sym, ap, ◌∙◌, subst, arith, List}
use Rattle.std.proofs.lemmas.Bool.{false_from_ne_true, and_parts, ltb-true, leb-true, leb-false}
use Rattle.block_index.specs.Places.{Cube, Grid, child_of, parent_of}
use Rattle.leaf_set.specs.Meshes.{IsLeaf, IsMesh}
use Rattle.block_fields.specs.Cells.{block_of, has_cell}
use Rattle.block_fields.specs.Samples.{has_coarser}
use Rattle.block_fields.specs.States.{State, IsState}
use Rattle.block_fields.proofs.CellFacts.{has_cell-leaf}
use Rattle.grid_fluxes.proofs.Coordinates.{twice_along}
use Rattle.grid_fluxes.proofs.Steps.{IsAlong}
use Rattle.grid_fluxes.proofs.Besides.{leaf_cell-inside}
use Rattle.grid_fluxes.specs.Axes.{Axis, along_x, along_y, along_z, coordinate, cells_along, is_outside}

half_along : (t n l x : ℕ) → 1 ≤ l → x < t * 2 ^ l * n → x / 2 < t * 2 ^ (l - 1) * n
half_along t n (suc l) x h k =
    let e : t * 2 ^ suc l * n ≡ 2 * (t * 2 ^ l * n) = ap (λ k. t * 2 ^ k * n) (let f : suc l ≡ l + 1 = omega arith in f) ∙ twice_along t n l in
    let f : t * 2 ^ l * n ≡ t * 2 ^ (suc l - 1) * n = ap (λ k. t * 2 ^ k * n) (let f : l ≡ suc l - 1 = omega arith in f) in
    subst (λ w. x / 2 < w) f (let b : x < 2 * (t * 2 ^ l * n) = subst (λ w. x < w) e k in omega arith)
half_along t n zero x h k = absurd (omega arith)

double_along : (t n l x b : ℕ) → b < 2 → x < t * 2 ^ l * n → 2 * x + b < t * 2 ^ (l + 1) * n
double_along t n l x b h k = subst (λ w. 2 * x + b < w) (sym (twice_along t n l)) (omega arith)

half_back : (t n l x b : ℕ) → b < 2 → 2 * x + b < t * 2 ^ (l + 1) * n → x < t * 2 ^ l * n
half_back t n l x b h k = let w : 2 * x + b < 2 * (t * 2 ^ l * n) = subst (λ w. 2 * x + b < w) (twice_along t n l) k in omega arith

pub along-parent : (a : Axis) (grid : Grid) (n : ℕ) (c : Cube) → 1 ≤ c.level → IsAlong a grid n c → IsAlong a grid n (parent_of c)
along-parent along_x grid n c h k = half_along grid.trees_x n c.level c.x h k
along-parent along_y grid n c h k = half_along grid.trees_y n c.level c.y h k
along-parent along_z grid n c h k = half_along grid.trees_z n c.level c.z h k

pub along-child : (a : Axis) (grid : Grid) (n : ℕ) (c : Cube) (k : ℕ) → k < 8 → IsAlong a grid n c → IsAlong a grid n (child_of c k)
along-child along_x grid n c k h w = double_along grid.trees_x n c.level c.x (k % 2) (omega arith) w
along-child along_y grid n c k h w = double_along grid.trees_y n c.level c.y (k / 2 % 2) (omega arith) w
along-child along_z grid n c k h w = double_along grid.trees_z n c.level c.z (k / 4) (omega arith) w

pub child-along : (a : Axis) (grid : Grid) (n : ℕ) (c : Cube) (k : ℕ) → k < 8 → IsAlong a grid n (child_of c k) → IsAlong a grid n c
child-along along_x grid n c k h w = half_back grid.trees_x n c.level c.x (k % 2) (omega arith) w
child-along along_y grid n c k h w = half_back grid.trees_y n c.level c.y (k / 2 % 2) (omega arith) w
child-along along_z grid n c k h w = half_back grid.trees_z n c.level c.z (k / 4) (omega arith) w

whole_along : (t n l x : ℕ) → 1 ≤ l → x / 2 < t * 2 ^ (l - 1) * n → x < t * 2 ^ l * n
whole_along t n l x h k =
    subst (λ q. x < t * 2 ^ q * n) (let e : l - 1 + 1 ≡ l = omega arith in e) (subst (λ w. w < t * 2 ^ (l - 1 + 1) * n) (let e : 2 * (x / 2) + x % 2 ≡ x = omega arith in e) (double_along t n (l - 1) (x / 2) (x % 2) (omega arith) k))

parent-along : (a : Axis) (grid : Grid) (n : ℕ) (c : Cube) → 1 ≤ c.level → IsAlong a grid n (parent_of c) → IsAlong a grid n c
parent-along along_x grid n c h k = whole_along grid.trees_x n c.level c.x h k
parent-along along_y grid n c h k = whole_along grid.trees_y n c.level c.y h k
parent-along along_z grid n c h k = whole_along grid.trees_z n c.level c.z h k

pub inside_from : (a : Axis) (grid : Grid) (n : ℕ) (c : Cube) → is_outside a grid n c ≡ false → IsAlong a grid n c
inside_from a grid n c h = leb-false (cells_along a grid n c.level) (coordinate a c) h

pub not_inside : (a : Axis) (grid : Grid) (n : ℕ) (c : Cube) → is_outside a grid n c ≡ true → IsAlong a grid n c → ⊥
not_inside a grid n c h k = let l : cells_along a grid n c.level ≤ coordinate a c = leb-true (cells_along a grid n c.level) (coordinate a c) h in clash (cells_along a grid n c.level) (coordinate a c) l k
  where
    clash : (u v : ℕ) → u ≤ v → v < u → ⊥
    clash u v h k = omega arith

-- cells of a leaf lie inside
pub leaf_cell-not_outside : (s : State) → IsState s → (c : Cube) → IsLeaf s.leaves (block_of s.edge c) → (a : Axis) → is_outside a s.grid s.edge c ≡ false
leaf_cell-not_outside s w c leaf a =
    false_from_ne_true (is_outside a s.grid s.edge c) (λ h.
    not_inside a s.grid s.edge c h (leaf_cell-inside a s.grid s.edge c (omega (arith, w.edge)) (w.mesh.inside leaf.0 (block_of s.edge c) leaf.1)))

module _ (a : Axis) (grid : Grid) (leaves : List Cube) (m : IsMesh grid leaves) (n : ℕ) (some : 0 < n) where
  pub held-along : (c : Cube) → has_cell n leaves c ≡ true → IsAlong a grid n c
  held-along c h = let l = has_cell-leaf n leaves c h in leaf_cell-inside a grid n c some (m.inside l.0 (block_of n c) l.1)

  -- no leaf holds a cell outside, its parent or a child
  pub none_outside : (c : Cube) → is_outside a grid n c ≡ true → (has_cell n leaves c ≡ false) × (has_coarser n leaves c ≡ false) × ((k : ℕ) → k < 8 → has_cell n leaves (child_of c k) ≡ false)
  none_outside c out =
      let no = not_inside a grid n c out in (
        false_from_ne_true (has_cell n leaves c) (λ h. no (held-along c h)),
        false_from_ne_true (has_coarser n leaves c) (λ h.
            let p = and_parts (nat_lt 0 c.level) (has_cell n leaves (parent_of c)) h in
            no (parent-along a grid n c (ltb-true 0 c.level p.0) (held-along (parent_of c) p.1))),
        λ k l. false_from_ne_true (has_cell n leaves (child_of c k)) (λ h. no (child-along a grid n c k l (held-along (child_of c k) h))),
      )

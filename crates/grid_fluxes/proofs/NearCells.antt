-- The cells that coordinates beside a cell are moved to.
use Rattle.std.proofs.Common.{◌≡◌, ℕ, ◌+◌, ◌-◌, ◌*◌, ◌%◌, ◌^◌, ◌<◌, Bool, true, false, cond, refl, sym, ap, ◌∙◌, subst, arith, inl, inr, pos, negsuc, ◌+ℤ◌}
use Rattle.std.proofs.lemmas.Bool.{cases_eq}
use Rattle.std.proofs.lemmas.Int.{ints}
use Rattle.std.proofs.Math.Nat.{mod-eq_of_lt, mod_self}
use Rattle.block_index.specs.Places.{Cube, Grid}
use Rattle.leaf_set.proofs.Containment.{same_cube}
use Rattle.block_fields.specs.Samples.{moved}
use Rattle.grid_fluxes.proofs.Coordinates.{next_end, next_on, previous_end, previous_on}
use Rattle.grid_fluxes.proofs.Steps.{IsAlong}
use Rattle.grid_fluxes.specs.Axes.{Axis, along_x, along_y, along_z, next_coordinate, previous_coordinate, next_cell, previous_cell, cell_stepped}

pub moved-inside : (w : Bool) (m x : ℕ) → x < m → moved w m (pos x) ≡ x
moved-inside true m x h = mod-eq_of_lt h
moved-inside false m x h = omega arith

moved_end : (w : Bool) (m x : ℕ) → x + 1 ≡ m → cond w 0 m < m → moved w m (pos (x + 1)) ≡ cond w 0 m
moved_end true m x e h = ap (λ k. k % m) e ∙ mod_self m
moved_end false m x e h = absurd (omega arith)

pub moved-next : (w : Bool) (m x : ℕ) → x < m → next_coordinate w m x < m → moved w m (pos x +ℤ pos 1) ≡ next_coordinate w m x
moved-next w m x h l =
    ap (moved w m) (up x)
    ∙ elim (cases_eq (x + 1) m) [
      | inl e ↦ let f = next_end w m x e in moved_end w m x e (subst (λ u. u < m) f l) ∙ sym f
      | inr n ↦ let f = next_on w m x n in moved-inside w m (x + 1) (subst (λ u. u < m) f l) ∙ sym f
    ]
  where
    up : (u : ℕ) → pos u +ℤ pos 1 ≡ pos (u + 1)
    up u = omega (arith, ints)

moved_start : (w : Bool) (m : ℕ) → cond w (m - 1) m < m → moved w m (negsuc 0) ≡ cond w (m - 1) m
moved_start true m h = omega arith
moved_start false m h = absurd (omega arith)

pub moved-previous : (w : Bool) (m y : ℕ) → y < m → previous_coordinate w m y < m → moved w m (pos y +ℤ negsuc 0) ≡ previous_coordinate w m y
moved-previous w m y h l =
    elim (cases_eq y 0) [
      | inl e ↦
          let f = previous_end w m y e in
          ap (λ k. moved w m (pos k +ℤ negsuc 0)) e ∙ ap (moved w m) down_zero ∙ moved_start w m (subst (λ u. u < m) f l) ∙ sym f
      | inr n ↦
          let f = previous_on w m y n in
          ap (moved w m) (down y n) ∙ moved-inside w m (y - 1) (omega arith) ∙ sym f
    ]
  where
    down_zero : pos 0 +ℤ negsuc 0 ≡ negsuc 0
    down_zero = omega (arith, ints)

    down : (u : ℕ) → (u ≡ 0 → ⊥) → pos u +ℤ negsuc 0 ≡ pos (u - 1)
    down u n = omega (arith, ints)

-- ---- cells

module _ (grid : Grid) (n : ℕ) (c : Cube) (inside : (b : Axis) → IsAlong b grid n c) where
  own_x : moved grid.wraps_x (grid.trees_x * 2 ^ c.level * n) (pos c.x) ≡ c.x
  own_x = moved-inside grid.wraps_x (grid.trees_x * 2 ^ c.level * n) c.x (inside along_x)

  own_y : moved grid.wraps_y (grid.trees_y * 2 ^ c.level * n) (pos c.y) ≡ c.y
  own_y = moved-inside grid.wraps_y (grid.trees_y * 2 ^ c.level * n) c.y (inside along_y)

  own_z : moved grid.wraps_z (grid.trees_z * 2 ^ c.level * n) (pos c.z) ≡ c.z
  own_z = moved-inside grid.wraps_z (grid.trees_z * 2 ^ c.level * n) c.z (inside along_z)

  still : (u : ℕ) → pos u +ℤ pos 0 ≡ pos u
  still u = omega (arith, ints)

  pub cell_stepped-none : (a : Axis) → cell_stepped a grid n c (pos 0) ≡ c
  cell_stepped-none along_x = same_cube (cell_stepped along_x grid n c (pos 0)) c refl (ap (moved grid.wraps_x (grid.trees_x * 2 ^ c.level * n)) (still c.x) ∙ own_x) own_y own_z
  cell_stepped-none along_y = same_cube (cell_stepped along_y grid n c (pos 0)) c refl own_x (ap (moved grid.wraps_y (grid.trees_y * 2 ^ c.level * n)) (still c.y) ∙ own_y) own_z
  cell_stepped-none along_z = same_cube (cell_stepped along_z grid n c (pos 0)) c refl own_x own_y (ap (moved grid.wraps_z (grid.trees_z * 2 ^ c.level * n)) (still c.z) ∙ own_z)

  pub cell_stepped-up : (a : Axis) → IsAlong a grid n (next_cell a grid n c) → cell_stepped a grid n c (pos 1) ≡ next_cell a grid n c
  cell_stepped-up along_x h = same_cube (cell_stepped along_x grid n c (pos 1)) (next_cell along_x grid n c) refl (moved-next grid.wraps_x (grid.trees_x * 2 ^ c.level * n) c.x (inside along_x) h) own_y own_z
  cell_stepped-up along_y h = same_cube (cell_stepped along_y grid n c (pos 1)) (next_cell along_y grid n c) refl own_x (moved-next grid.wraps_y (grid.trees_y * 2 ^ c.level * n) c.y (inside along_y) h) own_z
  cell_stepped-up along_z h = same_cube (cell_stepped along_z grid n c (pos 1)) (next_cell along_z grid n c) refl own_x own_y (moved-next grid.wraps_z (grid.trees_z * 2 ^ c.level * n) c.z (inside along_z) h)

  pub cell_stepped-down : (a : Axis) → IsAlong a grid n (previous_cell a grid n c) → cell_stepped a grid n c (negsuc 0) ≡ previous_cell a grid n c
  cell_stepped-down along_x h = same_cube (cell_stepped along_x grid n c (negsuc 0)) (previous_cell along_x grid n c) refl (moved-previous grid.wraps_x (grid.trees_x * 2 ^ c.level * n) c.x (inside along_x) h) own_y own_z
  cell_stepped-down along_y h = same_cube (cell_stepped along_y grid n c (negsuc 0)) (previous_cell along_y grid n c) refl own_x (moved-previous grid.wraps_y (grid.trees_y * 2 ^ c.level * n) c.y (inside along_y) h) own_z
  cell_stepped-down along_z h = same_cube (cell_stepped along_z grid n c (negsuc 0)) (previous_cell along_z grid n c) refl own_x own_y (moved-previous grid.wraps_z (grid.trees_z * 2 ^ c.level * n) c.z (inside along_z) h)

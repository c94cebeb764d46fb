-- Steps along an axis, between cells.
use Rattle.std.proofs.Common.{◌≡◌, ℕ, zero, suc, ◌+◌, ◌-◌, ◌*◌, ◌/◌, ◌%◌, ◌^◌, ◌<◌, ◌≤◌, Bool, refl, ap, ◌∙◌, arith}
use Rattle.block_index.specs.Places.{Cube, Grid, child_of, parent_of}
use Rattle.leaf_set.proofs.Containment.{same_cube}
use Rattle.grid_fluxes.proofs.Coordinates.{previous_coordinate-next, next_coordinate-previous, previous-half, next-odd, previous-odd, twice_along, previous_double, previous_twice}
use Rattle.grid_fluxes.specs.Axes.{Axis, along_x, along_y, along_z, coordinate, cells_along, next_coordinate, previous_coordinate, next_cell, previous_cell}

-- the cell lies inside the domain along an axis
abbrev pub IsAlong : Axis → Grid → ℕ → Cube → Type 0
IsAlong a grid n c = coordinate a c < cells_along a grid n c.level

-- the level stays
pub next_cell-level : (a : Axis) (grid : Grid) (n : ℕ) (c : Cube) → (next_cell a grid n c).level ≡ c.level
next_cell-level along_x grid n c = refl
next_cell-level along_y grid n c = refl
next_cell-level along_z grid n c = refl

pub previous_cell-level : (a : Axis) (grid : Grid) (n : ℕ) (c : Cube) → (previous_cell a grid n c).level ≡ c.level
previous_cell-level along_x grid n c = refl
previous_cell-level along_y grid n c = refl
previous_cell-level along_z grid n c = refl

pub previous_cell-next : (a : Axis) (grid : Grid) (n : ℕ) (c : Cube) → previous_cell a grid n (next_cell a grid n c) ≡ c
previous_cell-next along_x grid n c = same_cube (previous_cell along_x grid n (next_cell along_x grid n c)) c refl (previous_coordinate-next grid.wraps_x (grid.trees_x * 2 ^ c.level * n) c.x) refl refl
previous_cell-next along_y grid n c = same_cube (previous_cell along_y grid n (next_cell along_y grid n c)) c refl refl (previous_coordinate-next grid.wraps_y (grid.trees_y * 2 ^ c.level * n) c.y) refl
previous_cell-next along_z grid n c = same_cube (previous_cell along_z grid n (next_cell along_z grid n c)) c refl refl refl (previous_coordinate-next grid.wraps_z (grid.trees_z * 2 ^ c.level * n) c.z)

pub next_cell-previous : (a : Axis) (grid : Grid) (n : ℕ) (c : Cube) → IsAlong a grid n c → IsAlong a grid n (previous_cell a grid n c) → next_cell a grid n (previous_cell a grid n c) ≡ c
next_cell-previous along_x grid n c h k = same_cube (next_cell along_x grid n (previous_cell along_x grid n c)) c refl (next_coordinate-previous grid.wraps_x (grid.trees_x * 2 ^ c.level * n) c.x h k) refl refl
next_cell-previous along_y grid n c h k = same_cube (next_cell along_y grid n (previous_cell along_y grid n c)) c refl refl (next_coordinate-previous grid.wraps_y (grid.trees_y * 2 ^ c.level * n) c.y h k) refl
next_cell-previous along_z grid n c h k = same_cube (next_cell along_z grid n (previous_cell along_z grid n c)) c refl refl refl (next_coordinate-previous grid.wraps_z (grid.trees_z * 2 ^ c.level * n) c.z h k)

halves : (w : Bool) (t n l y : ℕ) → 1 ≤ l → y % 2 ≡ 0 → previous_coordinate w (t * 2 ^ l * n) y / 2 ≡ previous_coordinate w (t * 2 ^ (l - 1) * n) (y / 2)
halves w t n (suc l) y h even =
    let e : t * 2 ^ suc l * n ≡ 2 * (t * 2 ^ l * n) = ap (λ k. t * 2 ^ k * n) (let f : suc l ≡ l + 1 = omega arith in f) ∙ twice_along t n l in
    let f : t * 2 ^ l * n ≡ t * 2 ^ (suc l - 1) * n = ap (λ k. t * 2 ^ k * n) (let f : l ≡ suc l - 1 = omega arith in f) in
    ap (λ k. previous_coordinate w k y / 2) e ∙ previous-half w (t * 2 ^ l * n) y even ∙ ap (λ k. previous_coordinate w k (y / 2)) f
halves w t n zero y h even = absurd (omega arith)

-- before a cell that begins where its parent begins lies a cell of the place before the parent
pub parent-previous : (a : Axis) (grid : Grid) (n : ℕ) (c : Cube) → 1 ≤ c.level → coordinate a c % 2 ≡ 0 → parent_of (previous_cell a grid n c) ≡ previous_cell a grid n (parent_of c)
parent-previous along_x grid n c h e = same_cube (parent_of (previous_cell along_x grid n c)) (previous_cell along_x grid n (parent_of c)) refl (halves grid.wraps_x grid.trees_x n c.level c.x h e) refl refl
parent-previous along_y grid n c h e = same_cube (parent_of (previous_cell along_y grid n c)) (previous_cell along_y grid n (parent_of c)) refl refl (halves grid.wraps_y grid.trees_y n c.level c.y h e) refl
parent-previous along_z grid n c h e = same_cube (parent_of (previous_cell along_z grid n c)) (previous_cell along_z grid n (parent_of c)) refl refl refl (halves grid.wraps_z grid.trees_z n c.level c.z h e)

-- any other cell has the same parent as the one before it
pub parent-previous_odd : (a : Axis) (grid : Grid) (n : ℕ) (c : Cube) → coordinate a c % 2 ≡ 1 → parent_of (previous_cell a grid n c) ≡ parent_of c
parent-previous_odd along_x grid n c e = same_cube (parent_of (previous_cell along_x grid n c)) (parent_of c) refl (previous-odd grid.wraps_x (grid.trees_x * 2 ^ c.level * n) c.x e) refl refl
parent-previous_odd along_y grid n c e = same_cube (parent_of (previous_cell along_y grid n c)) (parent_of c) refl refl (previous-odd grid.wraps_y (grid.trees_y * 2 ^ c.level * n) c.y e) refl
parent-previous_odd along_z grid n c e = same_cube (parent_of (previous_cell along_z grid n c)) (parent_of c) refl refl refl (previous-odd grid.wraps_z (grid.trees_z * 2 ^ c.level * n) c.z e)

pub parent-next_odd : (a : Axis) (grid : Grid) (n : ℕ) (c : Cube) → IsAlong a grid n (next_cell a grid n c) → coordinate a (next_cell a grid n c) % 2 ≡ 1 → parent_of (next_cell a grid n c) ≡ parent_of c
parent-next_odd along_x grid n c h e = same_cube (parent_of (next_cell along_x grid n c)) (parent_of c) refl (next-odd grid.wraps_x (grid.trees_x * 2 ^ c.level * n) c.x h e) refl refl
parent-next_odd along_y grid n c h e = same_cube (parent_of (next_cell along_y grid n c)) (parent_of c) refl refl (next-odd grid.wraps_y (grid.trees_y * 2 ^ c.level * n) c.y h e) refl
parent-next_odd along_z grid n c h e = same_cube (parent_of (next_cell along_z grid n c)) (parent_of c) refl refl refl (next-odd grid.wraps_z (grid.trees_z * 2 ^ c.level * n) c.z h e)

-- before a finer cell at the upper face of c lies the child of c at that face
lower_end : (w : Bool) (t n l x : ℕ) → previous_coordinate w (t * 2 ^ (l + 1) * n) (2 * next_coordinate w (t * 2 ^ l * n) x + 0) ≡ 2 * x + 1
lower_end w t n l x = ap (λ k. previous_coordinate w k (2 * next_coordinate w (t * 2 ^ l * n) x + 0)) (twice_along t n l) ∙ previous_double w (t * 2 ^ l * n) x

module _ (grid : Grid) (n : ℕ) (c : Cube) where
  pub lower_x_0 : previous_cell along_x grid n (child_of (next_cell along_x grid n c) 0) ≡ child_of c 1
  lower_x_0 = same_cube (previous_cell along_x grid n (child_of (next_cell along_x grid n c) 0)) (child_of c 1) refl (lower_end grid.wraps_x grid.trees_x n c.level c.x) refl refl

  pub lower_x_2 : previous_cell along_x grid n (child_of (next_cell along_x grid n c) 2) ≡ child_of c 3
  lower_x_2 = same_cube (previous_cell along_x grid n (child_of (next_cell along_x grid n c) 2)) (child_of c 3) refl (lower_end grid.wraps_x grid.trees_x n c.level c.x) refl refl

  pub lower_x_4 : previous_cell along_x grid n (child_of (next_cell along_x grid n c) 4) ≡ child_of c 5
  lower_x_4 = same_cube (previous_cell along_x grid n (child_of (next_cell along_x grid n c) 4)) (child_of c 5) refl (lower_end grid.wraps_x grid.trees_x n c.level c.x) refl refl

  pub lower_x_6 : previous_cell along_x grid n (child_of (next_cell along_x grid n c) 6) ≡ child_of c 7
  lower_x_6 = same_cube (previous_cell along_x grid n (child_of (next_cell along_x grid n c) 6)) (child_of c 7) refl (lower_end grid.wraps_x grid.trees_x n c.level c.x) refl refl

  pub lower_y_0 : previous_cell along_y grid n (child_of (next_cell along_y grid n c) 0) ≡ child_of c 2
  lower_y_0 = same_cube (previous_cell along_y grid n (child_of (next_cell along_y grid n c) 0)) (child_of c 2) refl refl (lower_end grid.wraps_y grid.trees_y n c.level c.y) refl

  pub lower_y_1 : previous_cell along_y grid n (child_of (next_cell along_y grid n c) 1) ≡ child_of c 3
  lower_y_1 = same_cube (previous_cell along_y grid n (child_of (next_cell along_y grid n c) 1)) (child_of c 3) refl refl (lower_end grid.wraps_y grid.trees_y n c.level c.y) refl

  pub lower_y_4 : previous_cell along_y grid n (child_of (next_cell along_y grid n c) 4) ≡ child_of c 6
  lower_y_4 = same_cube (previous_cell along_y grid n (child_of (next_cell along_y grid n c) 4)) (child_of c 6) refl refl (lower_end grid.wraps_y grid.trees_y n c.level c.y) refl

  pub lower_y_5 : previous_cell along_y grid n (child_of (next_cell along_y grid n c) 5) ≡ child_of c 7
  lower_y_5 = same_cube (previous_cell along_y grid n (child_of (next_cell along_y grid n c) 5)) (child_of c 7) refl refl (lower_end grid.wraps_y grid.trees_y n c.level c.y) refl

  pub lower_z_0 : previous_cell along_z grid n (child_of (next_cell along_z grid n c) 0) ≡ child_of c 4
  lower_z_0 = same_cube (previous_cell along_z grid n (child_of (next_cell along_z grid n c) 0)) (child_of c 4) refl refl refl (lower_end grid.wraps_z grid.trees_z n c.level c.z)

  pub lower_z_1 : previous_cell along_z grid n (child_of (next_cell along_z grid n c) 1) ≡ child_of c 5
  lower_z_1 = same_cube (previous_cell along_z grid n (child_of (next_cell along_z grid n c) 1)) (child_of c 5) refl refl refl (lower_end grid.wraps_z grid.trees_z n c.level c.z)

  pub lower_z_2 : previous_cell along_z grid n (child_of (next_cell along_z grid n c) 2) ≡ child_of c 6
  lower_z_2 = same_cube (previous_cell along_z grid n (child_of (next_cell along_z grid n c) 2)) (child_of c 6) refl refl refl (lower_end grid.wraps_z grid.trees_z n c.level c.z)

  pub lower_z_3 : previous_cell along_z grid n (child_of (next_cell along_z grid n c) 3) ≡ child_of c 7
  lower_z_3 = same_cube (previous_cell along_z grid n (child_of (next_cell along_z grid n c) 3)) (child_of c 7) refl refl refl (lower_end grid.wraps_z grid.trees_z n c.level c.z)

-- before a finer cell at the lower face of c lies the child at that face of the cell before c
upper_end : (w : Bool) (t n l y : ℕ) → previous_coordinate w (t * 2 ^ l * n) y < t * 2 ^ l * n → previous_coordinate w (t * 2 ^ (l + 1) * n) (2 * y + 0) ≡ 2 * previous_coordinate w (t * 2 ^ l * n) y + 1
upper_end w t n l y h = ap (λ k. previous_coordinate w k (2 * y + 0)) (twice_along t n l) ∙ previous_twice w (t * 2 ^ l * n) y h

module _ (grid : Grid) (n : ℕ) (c : Cube) (h : IsAlong along_x grid n (previous_cell along_x grid n c)) where
  pub upper_x_0 : previous_cell along_x grid n (child_of c 0) ≡ child_of (previous_cell along_x grid n c) 1
  upper_x_0 = same_cube (previous_cell along_x grid n (child_of c 0)) (child_of (previous_cell along_x grid n c) 1) refl (upper_end grid.wraps_x grid.trees_x n c.level c.x h) refl refl

  pub upper_x_2 : previous_cell along_x grid n (child_of c 2) ≡ child_of (previous_cell along_x grid n c) 3
  upper_x_2 = same_cube (previous_cell along_x grid n (child_of c 2)) (child_of (previous_cell along_x grid n c) 3) refl (upper_end grid.wraps_x grid.trees_x n c.level c.x h) refl refl

  pub upper_x_4 : previous_cell along_x grid n (child_of c 4) ≡ child_of (previous_cell along_x grid n c) 5
  upper_x_4 = same_cube (previous_cell along_x grid n (child_of c 4)) (child_of (previous_cell along_x grid n c) 5) refl (upper_end grid.wraps_x grid.trees_x n c.level c.x h) refl refl

  pub upper_x_6 : previous_cell along_x grid n (child_of c 6) ≡ child_of (previous_cell along_x grid n c) 7
  upper_x_6 = same_cube (previous_cell along_x grid n (child_of c 6)) (child_of (previous_cell along_x grid n c) 7) refl (upper_end grid.wraps_x grid.trees_x n c.level c.x h) refl refl

module _ (grid : Grid) (n : ℕ) (c : Cube) (h : IsAlong along_y grid n (previous_cell along_y grid n c)) where
  pub upper_y_0 : previous_cell along_y grid n (child_of c 0) ≡ child_of (previous_cell along_y grid n c) 2
  upper_y_0 = same_cube (previous_cell along_y grid n (child_of c 0)) (child_of (previous_cell along_y grid n c) 2) refl refl (upper_end grid.wraps_y grid.trees_y n c.level c.y h) refl

  pub upper_y_1 : previous_cell along_y grid n (child_of c 1) ≡ child_of (previous_cell along_y grid n c) 3
  upper_y_1 = same_cube (previous_cell along_y grid n (child_of c 1)) (child_of (previous_cell along_y grid n c) 3) refl refl (upper_end grid.wraps_y grid.trees_y n c.level c.y h) refl

  pub upper_y_4 : previous_cell along_y grid n (child_of c 4) ≡ child_of (previous_cell along_y grid n c) 6
  upper_y_4 = same_cube (previous_cell along_y grid n (child_of c 4)) (child_of (previous_cell along_y grid n c) 6) refl refl (upper_end grid.wraps_y grid.trees_y n c.level c.y h) refl

  pub upper_y_5 : previous_cell along_y grid n (child_of c 5) ≡ child_of (previous_cell along_y grid n c) 7
  upper_y_5 = same_cube (previous_cell along_y grid n (child_of c 5)) (child_of (previous_cell along_y grid n c) 7) refl refl (upper_end grid.wraps_y grid.trees_y n c.level c.y h) refl

module _ (grid : Grid) (n : ℕ) (c : Cube) (h : IsAlong along_z grid n (previous_cell along_z grid n c)) where
  pub upper_z_0 : previous_cell along_z grid n (child_of c 0) ≡ child_of (previous_cell along_z grid n c) 4
  upper_z_0 = same_cube (previous_cell along_z grid n (child_of c 0)) (child_of (previous_cell along_z grid n c) 4) refl refl refl (upper_end grid.wraps_z grid.trees_z n c.level c.z h)

  pub upper_z_1 : previous_cell along_z grid n (child_of c 1) ≡ child_of (previous_cell along_z grid n c) 5
  upper_z_1 = same_cube (previous_cell along_z grid n (child_of c 1)) (child_of (previous_cell along_z grid n c) 5) refl refl refl (upper_end grid.wraps_z grid.trees_z n c.level c.z h)

  pub upper_z_2 : previous_cell along_z grid n (child_of c 2) ≡ child_of (previous_cell along_z grid n c) 6
  upper_z_2 = same_cube (previous_cell along_z grid n (child_of c 2)) (child_of (previous_cell along_z grid n c) 6) refl refl refl (upper_end grid.wraps_z grid.trees_z n c.level c.z h)

  pub upper_z_3 : previous_cell along_z grid n (child_of c 3) ≡ child_of (previous_cell along_z grid n c) 7
  upper_z_3 = same_cube (previous_cell along_z grid n (child_of c 3)) (child_of (previous_cell along_z grid n c) 7) refl refl refl (upper_end grid.wraps_z grid.trees_z n c.level c.z h)

-- From a finer leaf across a face of a cell to the face of the coarse block, over plain numbers and by axes.
use Rattle.std.proofs.Common.{◌≡◌, ℕ, ◌+◌, ◌-◌, ◌*◌, ◌/◌, ◌%◌, ◌^◌, ◌<◌, ◌≤◌, Bool, true, false, cond, refl, sym, ap, ◌∙◌, subst, arith, inl, inr}
use Rattle.std.proofs.lemmas.Bool.{cases_eq}
use Rattle.std.proofs.lemmas.Nat.{mod_below, div_below, div-mul-add, mod-mul-add, div-add-mod'}
use Rattle.block_index.specs.Places.{Cube, Grid, IsInside, parent_of}
use Rattle.leaf_set.proofs.Containment.{same_cube}
use Rattle.block_fields.specs.Cells.{block_of}
use Rattle.grid_fluxes.specs.Axes.{Axis, along_x, along_y, along_z, coordinate, next_cell, previous_cell, next_coordinate, previous_coordinate}
use Rattle.grid_fluxes.proofs.Coordinates.{next_on, previous_end, previous_on, twice_along}
use Rattle.flux_register.proofs.Coordinates.{finer-across, next-place, previous-place}
use Rattle.flux_register.proofs.Geometry.{fine, first, second}

half_of : (q r : ℕ) → r < 2 → ((2 * q + r) / 2 ≡ q) × ((2 * q + r) % 2 ≡ r)
half_of q r h =
    let e : 2 * q + r ≡ q * 2 + r = omega arith in
    (ap (λ (u : ℕ). u / 2) e ∙ div-mul-add q 2 r h, ap (λ (u : ℕ). u % 2) e ∙ mod-mul-add q 2 r h)

-- across the axis
pub from-across : (n h q c : ℕ) → n ≡ 2 * h → 0 < h → c / n ≡ q → ((2 * c + 0) / n / 2 ≡ q) × ((2 * c + 0) / n % 2 ≡ c % n / h)
from-across n h q c even some own =
    let some_n : 0 < n = omega (arith, even, some) in
    let r = c % n / h in
    let below : c % n < 2 * h = (let m = mod_below c n some_n in omega (arith, m, even)) in
    let two : r < 2 = div_below (c % n) h 2 some below in
    let whole : c / n * n + c % n ≡ c = div-add-mod' c n in
    let at : q * n + c % n ≡ c = ap (λ (u : ℕ). u * n + c % n) (sym own) ∙ whole in
    let fine' = finer-across n h q (c % n) r 0 even refl in
    let all : 2 * c + 0 ≡ (2 * q + r) * n + (2 * (c % n % h) + 0) = omega (arith, fine', at) in
    let small : c % n % h < h = mod_below (c % n) h some in
    let is : (2 * c + 0) / n ≡ 2 * q + r = ap (λ (u : ℕ). u / n) all ∙ div-mul-add (2 * q + r) n (2 * (c % n % h) + 0) (omega (arith, small, even)) in
    let half = half_of q r two in
    (ap (λ (u : ℕ). u / 2) is ∙ half.0, ap (λ (u : ℕ). u % 2) is ∙ half.1)

-- past the last cell
pub from-end : (w : Bool) (k n q c : ℕ) → 0 < n → c / n ≡ q → c % n ≡ n - 1 → ((2 * next_coordinate w (k * n) c + 0) / n / 2 ≡ next_coordinate w (k * 1) q) × ((2 * next_coordinate w (k * n) c + 0) / n % 2 ≡ 0)
from-end w k n q c some own last =
    let whole : c / n * n + c % n ≡ c = div-add-mod' c n in
    let at : c ≡ q * n + (n - 1) = sym whole ∙ (ap (λ (u : ℕ). u * n + c % n) own ∙ ap (λ (u : ℕ). q * n + u) last) in
    let next = next-place w k n q c some at in
    let m = next_coordinate w (k * 1) q in
    let is : 2 * next_coordinate w (k * n) c + 0 ≡ (2 * m + 0) * n + 0 = (let e : (2 * m + 0) * n ≡ 2 * (m * n) = row m n in omega (arith, next, e)) in
    let p : (2 * next_coordinate w (k * n) c + 0) / n ≡ 2 * m + 0 = ap (λ (u : ℕ). u / n) is ∙ div-mul-add (2 * m + 0) n 0 some in
    let half = half_of m 0 (omega arith) in
    (ap (λ (u : ℕ). u / 2) p ∙ half.0, ap (λ (u : ℕ). u % 2) p ∙ half.1)
  where
    row : (m n : ℕ) → (2 * m + 0) * n ≡ 2 * (m * n)
    row m n = omega arith

-- any other cell is before one of its own block
pub next-own : (w : Bool) (k n q c : ℕ) → 0 < n → c / n ≡ q → (c % n ≡ n - 1 → ⊥) → q < k → next_coordinate w (k * n) c / n ≡ q
next-own w k n q c some own not within =
    let whole : c / n * n + c % n ≡ c = div-add-mod' c n in
    let at : q * n + c % n ≡ c = ap (λ (u : ℕ). u * n + c % n) (sym own) ∙ whole in
    let small : c % n < n = mod_below c n some in
    let more : c % n + 1 < n = omega (arith, small, not) in
    let is : c + 1 ≡ q * n + (c % n + 1) = omega (arith, at) in
    let block : (c + 1) / n ≡ q = ap (λ (u : ℕ). u / n) is ∙ div-mul-add q n (c % n + 1) more in
    let no_end : c + 1 ≡ k * n → ⊥ = λ e.
    let end : (c + 1) / n ≡ k = ap (λ (u : ℕ). u / n) (e ∙ (let z : k * n ≡ k * n + 0 = omega arith in z)) ∙ div-mul-add k n 0 some in
    omega (arith, block, end, within) in
    ap (λ (u : ℕ). u / n) (next_on w (k * n) c no_end) ∙ block

-- before the first cell
pub from-low : (w : Bool) (k n q c : ℕ) → 2 ≤ n → c / n ≡ q → c % n ≡ 0 → q < k → (2 * previous_coordinate w (k * n) c + 0) / n < 2 * k
    → ((2 * previous_coordinate w (k * n) c + 0) / n / 2 ≡ previous_coordinate w (k * 1) q) × ((2 * previous_coordinate w (k * n) c + 0) / n % 2 ≡ 1)
from-low w k n q c two own begins within inside =
    let some : 0 < n = omega (arith, two) in
    let whole : c / n * n + c % n ≡ c = div-add-mod' c n in
    let at : c ≡ q * n = sym whole ∙ (ap (λ (u : ℕ). u * n + c % n) own ∙ (ap (λ (u : ℕ). q * n + u) begins ∙ (let e : q * n + 0 ≡ q * n = omega arith in e))) in
    let m = previous_coordinate w (k * 1) q in
    let there : m < k = elim (cases_eq q 0) [
      | inl none ↦ subst (λ (u : ℕ). u < k) (sym (previous_end w (k * 1) q none)) (round w (let z : c ≡ 0 = at ∙ (ap (λ (u : ℕ). u * n) none ∙ (let e : 0 * n ≡ 0 = omega arith in e)) in subst (λ (u : ℕ). (2 * u + 0) / n < 2 * k) (previous_end w (k * n) c z) inside))
      | inr more ↦ (let e = previous_on w (k * 1) q more in omega (arith, e, within))
    ] in
    let back = previous-place w k n q c some at within there in
    let is : 2 * previous_coordinate w (k * n) c + 0 ≡ (2 * m + 1) * n + (n - 2) = (let e : (2 * m + 1) * n ≡ 2 * (m * n) + n = row m n in omega (arith, back, e, two)) in
    let p : (2 * previous_coordinate w (k * n) c + 0) / n ≡ 2 * m + 1 = ap (λ (u : ℕ). u / n) is ∙ div-mul-add (2 * m + 1) n (n - 2) (omega (arith, two)) in
    let half = half_of m 1 (omega arith) in
    (ap (λ (u : ℕ). u / 2) p ∙ half.0, ap (λ (u : ℕ). u % 2) p ∙ half.1)
  where
    row : (m n : ℕ) → (2 * m + 1) * n ≡ 2 * (m * n) + n
    row m n = omega arith

    round : (b : Bool) → (2 * cond b (k * n - 1) (k * n) + 0) / n < 2 * k → cond b (k * 1 - 1) (k * 1) < k
    round true h = omega (arith, within)
    round false h =
        let e : 2 * (k * n) + 0 ≡ 2 * k * n + 0 = omega arith in
        let d : (2 * (k * n) + 0) / n ≡ 2 * k = ap (λ (u : ℕ). u / n) e ∙ div-mul-add (2 * k) n 0 (omega (arith, two)) in
        absurd (omega (arith, h, d))

-- any other cell is past one of its own block
pub previous-own : (w : Bool) (k n q c : ℕ) → 0 < n → c / n ≡ q → (c % n ≡ 0 → ⊥) → previous_coordinate w (k * n) c / n ≡ q
previous-own w k n q c some own not =
    let whole : c / n * n + c % n ≡ c = div-add-mod' c n in
    let at : q * n + c % n ≡ c = ap (λ (u : ℕ). u * n + c % n) (sym own) ∙ whole in
    let small : c % n < n = mod_below c n some in
    let is : c - 1 ≡ q * n + (c % n - 1) = omega (arith, at, not) in
    ap (λ (u : ℕ). u / n) (previous_on w (k * n) c (λ z. omega (arith, z, at, not))) ∙ (ap (λ (u : ℕ). u / n) is ∙ div-mul-add q n (c % n - 1) (omega (arith, small)))

-- ---- by axes

pub level-fine : (a : Axis) (n : ℕ) (w : Cube) → (block_of n (fine a w 0 0 0)).level ≡ w.level + 1
level-fine along_x n w = refl
level-fine along_y n w = refl
level-fine along_z n w = refl

-- a place lies against a side of a block
pub record LiesAcross (a : Axis) (end : Bool) (grid : Grid) (n : ℕ) (q c p : Cube) : Type 0 where
  pub parent : parent_of p ≡ cond end (next_cell a grid 1 q) (previous_cell a grid 1 q)
  pub near : coordinate a p % 2 ≡ cond end 0 1
  pub first : first a c % n / (n / 2) ≡ first a p % 2
  pub second : second a c % n / (n / 2) ≡ second a p % 2

module _ (grid : Grid) (n : ℕ) (even : n ≡ 2 * (n / 2)) (some : 1 ≤ n / 2) (q c : Cube) (own : block_of n c ≡ q) where
  some_n : 0 < n
  some_n = omega (arith, even, some)

  level_c : c.level ≡ q.level
  level_c = ap (λ (x : Cube). x.level) own

  own_x : c.x / n ≡ q.x
  own_x = ap (λ (x : Cube). x.x) own

  own_y : c.y / n ≡ q.y
  own_y = ap (λ (x : Cube). x.y) own

  own_z : c.z / n ≡ q.z
  own_z = ap (λ (x : Cube). x.z) own

  minus : (m l : ℕ) → m ≡ l → m + 1 - 1 ≡ l
  minus m l e = omega (arith, e)

  pub across-end : (a : Axis) → coordinate a c % n ≡ n - 1 → LiesAcross a true grid n q c (block_of n (fine a (next_cell a grid n c) 0 0 0))
  across-end along_x last =
      let u = from-end grid.wraps_x (grid.trees_x * 2 ^ c.level) n q.x c.x some_n own_x last in
      let i = from-across n (n / 2) q.y c.y even some own_y in
      let j = from-across n (n / 2) q.z c.z even some own_z in
      record {
        parent = same_cube (parent_of (block_of n (fine along_x (next_cell along_x grid n c) 0 0 0))) (next_cell along_x grid 1 q) (minus c.level q.level level_c) (u.0 ∙ ap (λ (l : ℕ). next_coordinate grid.wraps_x (grid.trees_x * 2 ^ l * 1) q.x) level_c) i.0 j.0;
        near = u.1;
        first = sym i.1;
        second = sym j.1;
      }
  across-end along_y last =
      let u = from-end grid.wraps_y (grid.trees_y * 2 ^ c.level) n q.y c.y some_n own_y last in
      let i = from-across n (n / 2) q.x c.x even some own_x in
      let j = from-across n (n / 2) q.z c.z even some own_z in
      record {
        parent = same_cube (parent_of (block_of n (fine along_y (next_cell along_y grid n c) 0 0 0))) (next_cell along_y grid 1 q) (minus c.level q.level level_c) i.0 (u.0 ∙ ap (λ (l : ℕ). next_coordinate grid.wraps_y (grid.trees_y * 2 ^ l * 1) q.y) level_c) j.0;
        near = u.1;
        first = sym i.1;
        second = sym j.1;
      }
  across-end along_z last =
      let u = from-end grid.wraps_z (grid.trees_z * 2 ^ c.level) n q.z c.z some_n own_z last in
      let i = from-across n (n / 2) q.x c.x even some own_x in
      let j = from-across n (n / 2) q.y c.y even some own_y in
      record {
        parent = same_cube (parent_of (block_of n (fine along_z (next_cell along_z grid n c) 0 0 0))) (next_cell along_z grid 1 q) (minus c.level q.level level_c) i.0 j.0 (u.0 ∙ ap (λ (l : ℕ). next_coordinate grid.wraps_z (grid.trees_z * 2 ^ l * 1) q.z) level_c);
        near = u.1;
        first = sym i.1;
        second = sym j.1;
      }

  twice : (t l : ℕ) → t * 2 ^ (l + 1) ≡ 2 * (t * 2 ^ l)
  twice t l = (let a : t * 2 ^ (l + 1) ≡ t * 2 ^ (l + 1) * 1 = omega arith in a) ∙ (twice_along t 1 l ∙ (let f : 2 * (t * 2 ^ l * 1) ≡ 2 * (t * 2 ^ l) = omega arith in f))

  pub across-low : (a : Axis) → IsInside grid q → IsInside grid (block_of n (fine a (previous_cell a grid n c) 0 0 0)) → coordinate a c % n ≡ 0 → LiesAcross a false grid n q c (block_of n (fine a (previous_cell a grid n c) 0 0 0))
  across-low along_x in_q in_p begins =
      let within : q.x < grid.trees_x * 2 ^ c.level = subst (λ (l : ℕ). q.x < grid.trees_x * 2 ^ l) (sym level_c) in_q.x in
      let inside : (2 * previous_coordinate grid.wraps_x (grid.trees_x * 2 ^ c.level * n) c.x + 0) / n < 2 * (grid.trees_x * 2 ^ c.level) = (let e = twice grid.trees_x c.level in omega (arith, in_p.x, e)) in
      let u = from-low grid.wraps_x (grid.trees_x * 2 ^ c.level) n q.x c.x (omega (arith, even, some)) own_x begins within inside in
      let i = from-across n (n / 2) q.y c.y even some own_y in
      let j = from-across n (n / 2) q.z c.z even some own_z in
      record {
        parent = same_cube (parent_of (block_of n (fine along_x (previous_cell along_x grid n c) 0 0 0))) (previous_cell along_x grid 1 q) (minus c.level q.level level_c) (u.0 ∙ ap (λ (l : ℕ). previous_coordinate grid.wraps_x (grid.trees_x * 2 ^ l * 1) q.x) level_c) i.0 j.0;
        near = u.1;
        first = sym i.1;
        second = sym j.1;
      }
  across-low along_y in_q in_p begins =
      let within : q.y < grid.trees_y * 2 ^ c.level = subst (λ (l : ℕ). q.y < grid.trees_y * 2 ^ l) (sym level_c) in_q.y in
      let inside : (2 * previous_coordinate grid.wraps_y (grid.trees_y * 2 ^ c.level * n) c.y + 0) / n < 2 * (grid.trees_y * 2 ^ c.level) = (let e = twice grid.trees_y c.level in omega (arith, in_p.y, e)) in
      let u = from-low grid.wraps_y (grid.trees_y * 2 ^ c.level) n q.y c.y (omega (arith, even, some)) own_y begins within inside in
      let i = from-across n (n / 2) q.x c.x even some own_x in
      let j = from-across n (n / 2) q.z c.z even some own_z in
      record {
        parent = same_cube (parent_of (block_of n (fine along_y (previous_cell along_y grid n c) 0 0 0))) (previous_cell along_y grid 1 q) (minus c.level q.level level_c) i.0 (u.0 ∙ ap (λ (l : ℕ). previous_coordinate grid.wraps_y (grid.trees_y * 2 ^ l * 1) q.y) level_c) j.0;
        near = u.1;
        first = sym i.1;
        second = sym j.1;
      }
  across-low along_z in_q in_p begins =
      let within : q.z < grid.trees_z * 2 ^ c.level = subst (λ (l : ℕ). q.z < grid.trees_z * 2 ^ l) (sym level_c) in_q.z in
      let inside : (2 * previous_coordinate grid.wraps_z (grid.trees_z * 2 ^ c.level * n) c.z + 0) / n < 2 * (grid.trees_z * 2 ^ c.level) = (let e = twice grid.trees_z c.level in omega (arith, in_p.z, e)) in
      let u = from-low grid.wraps_z (grid.trees_z * 2 ^ c.level) n q.z c.z (omega (arith, even, some)) own_z begins within inside in
      let i = from-across n (n / 2) q.x c.x even some own_x in
      let j = from-across n (n / 2) q.y c.y even some own_y in
      record {
        parent = same_cube (parent_of (block_of n (fine along_z (previous_cell along_z grid n c) 0 0 0))) (previous_cell along_z grid 1 q) (minus c.level q.level level_c) i.0 j.0 (u.0 ∙ ap (λ (l : ℕ). previous_coordinate grid.wraps_z (grid.trees_z * 2 ^ l * 1) q.z) level_c);
        near = u.1;
        first = sym i.1;
        second = sym j.1;
      }

  pub stays-next : (a : Axis) → IsInside grid q → (coordinate a c % n ≡ n - 1 → ⊥) → block_of n (next_cell a grid n c) ≡ q
  stays-next along_x in_q not = same_cube (block_of n (next_cell along_x grid n c)) q level_c (next-own grid.wraps_x (grid.trees_x * 2 ^ c.level) n q.x c.x some_n own_x not (subst (λ (l : ℕ). q.x < grid.trees_x * 2 ^ l) (sym level_c) in_q.x)) own_y own_z
  stays-next along_y in_q not = same_cube (block_of n (next_cell along_y grid n c)) q level_c own_x (next-own grid.wraps_y (grid.trees_y * 2 ^ c.level) n q.y c.y some_n own_y not (subst (λ (l : ℕ). q.y < grid.trees_y * 2 ^ l) (sym level_c) in_q.y)) own_z
  stays-next along_z in_q not = same_cube (block_of n (next_cell along_z grid n c)) q level_c own_x own_y (next-own grid.wraps_z (grid.trees_z * 2 ^ c.level) n q.z c.z some_n own_z not (subst (λ (l : ℕ). q.z < grid.trees_z * 2 ^ l) (sym level_c) in_q.z))

  pub stays-previous : (a : Axis) → (coordinate a c % n ≡ 0 → ⊥) → block_of n (previous_cell a grid n c) ≡ q
  stays-previous along_x not = same_cube (block_of n (previous_cell along_x grid n c)) q level_c (previous-own grid.wraps_x (grid.trees_x * 2 ^ c.level) n q.x c.x some_n own_x not) own_y own_z
  stays-previous along_y not = same_cube (block_of n (previous_cell along_y grid n c)) q level_c own_x (previous-own grid.wraps_y (grid.trees_y * 2 ^ c.level) n q.y c.y some_n own_y not) own_z
  stays-previous along_z not = same_cube (block_of n (previous_cell along_z grid n c)) q level_c own_x own_y (previous-own grid.wraps_z (grid.trees_z * 2 ^ c.level) n q.z c.z some_n own_z not)

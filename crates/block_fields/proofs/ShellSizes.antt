-- How many ghosts a direction has, and how many come before it: the sums over the directions as products.
use Rattle.std.proofs.Common.{◌≡◌, ℕ, zero, suc, ◌+◌, ◌*◌, ◌/◌, ◌%◌, ◌<◌, ◌≤◌, ◌==◌, true, false, cond, nat_lt, sym, ap, ◌∙◌, subst, arith, get_or, length}
use Rattle.std.proofs.Math.Nat.{mul_comm}
use Rattle.std.proofs.lemmas.Nat.{mul-add-lt, mul-le}
use Rattle.std.proofs.lemmas.Bool.{cond-true, cond-false}
use Rattle.std.proofs.lemmas.Bool.Decides.{nat_tests}
use Rattle.std.proofs.lemmas.List.FromFn.{get_or-map-range_with_len, length-map-range_with_len}
use Rattle.block_fields.specs.Layout.{cells_before}
use Rattle.block_fields.specs.Shells.{direction, ghost_count, ghost_size, ghost_sizes, ghost_start, side_length}
use Rattle.block_fields.proofs.Cuts.{start-within}

-- three numbers
pub by_sides : (P : ℕ → Type 0) → P 0 → P 1 → P 2 → (s : ℕ) → s < 3 → P s
by_sides P a b c zero h = a
by_sides P a b c (suc zero) h = b
by_sides P a b c (suc (suc zero)) h = c
by_sides P a b c (suc (suc (suc s))) h = absurd (omega arith)

-- the cells of the directions before one, the block's own among them: planes, then rows, then single boxes
abbrev pub cells_first : ℕ → ℕ → ℕ → ℕ → ℕ → ℕ
cells_first n g x y z =
    cells_before n g z * (n + 2 * g) * (n + 2 * g) + side_length n g z * cells_before n g y * (n + 2 * g) + side_length n g z * side_length n g y * cells_before n g x

abbrev IsStart : ℕ → ℕ → ℕ → ℕ → ℕ → Type 0
IsStart n g z y x = ghost_start n g (direction x y z) + cond (nat_lt 13 (direction x y z)) (n * n * n) 0 ≡ cells_first n g x y z

pub start-cells_first : (n g x y z : ℕ) → x < 3 → y < 3 → z < 3 → ghost_start n g (direction x y z) + cond (nat_lt 13 (direction x y z)) (n * n * n) 0 ≡ cells_first n g x y z
unfolding ghost_sizes
start-cells_first n g x y z hx hy hz =
    by_sides (λ z. IsStart n g z y x)
    (by_sides (λ y. IsStart n g 0 y x)
    (by_sides (IsStart n g 0 0) (omega arith) (omega arith) (omega arith) x hx)
    (by_sides (IsStart n g 0 1) (omega arith) (omega arith) (omega arith) x hx)
    (by_sides (IsStart n g 0 2) (omega arith) (omega arith) (omega arith) x hx)
    y hy)
    (by_sides (λ y. IsStart n g 1 y x)
    (by_sides (IsStart n g 1 0) (omega arith) (omega arith) (omega arith) x hx)
    (by_sides (IsStart n g 1 1) (omega arith) (omega arith) (omega arith) x hx)
    (by_sides (IsStart n g 1 2) (omega arith) (omega arith) (omega arith) x hx)
    y hy)
    (by_sides (λ y. IsStart n g 2 y x)
    (by_sides (IsStart n g 2 0) (omega arith) (omega arith) (omega arith) x hx)
    (by_sides (IsStart n g 2 1) (omega arith) (omega arith) (omega arith) x hx)
    (by_sides (IsStart n g 2 2) (omega arith) (omega arith) (omega arith) x hx)
    y hy)
    z hz

pub length-ghost_sizes : (n g : ℕ) → length (ghost_sizes n g) ≡ 27
unfolding ghost_sizes
length-ghost_sizes n g = length-map-range_with_len (ghost_size n g) 0 27

pub get_or-ghost_sizes : (n g d : ℕ) → d < 27 → get_or (ghost_sizes n g) d 0 ≡ ghost_size n g d
unfolding ghost_sizes
get_or-ghost_sizes n g d h = get_or-map-range_with_len (ghost_size n g) 0 27 d d 0 h (omega arith)

-- all cells of the box of the block and its shell but the block's own are ghosts
pub count-cube : (n g : ℕ) → ghost_count n g + n * n * n ≡ (n + 2 * g) * (n + 2 * g) * (n + 2 * g)
unfolding ghost_sizes
count-cube n g = omega arith

pub cube-most : (n g : ℕ) → n ≤ 16 → g ≤ 2 → (n + 2 * g) * (n + 2 * g) * (n + 2 * g) ≤ 8000
cube-most n g hn hg =
    let w : n + 2 * g ≤ 20 = omega arith in
    let square : (n + 2 * g) * (n + 2 * g) ≤ 400 = mul-le (n + 2 * g) (n + 2 * g) 20 20 w w in
    mul-le ((n + 2 * g) * (n + 2 * g)) (n + 2 * g) 400 20 square w

pub start-within_count : (n g d : ℕ) → d < 27 → ghost_start n g d + ghost_size n g d ≤ ghost_count n g
start-within_count n g d h =
    subst (λ k. ghost_start n g d + k ≤ ghost_count n g) (get_or-ghost_sizes n g d h) (start-within (ghost_sizes n g) d)

module _ (n g x y z : ℕ) (hx : x < 3) (hy : y < 3) (hz : z < 3) where
  pub start-late : 13 < direction x y z → ghost_start n g (direction x y z) + n * n * n ≡ cells_first n g x y z
  start-late late =
      let t : nat_lt 13 (direction x y z) ≡ true = grind (arith, nat_tests) in
      ap (λ k. ghost_start n g (direction x y z) + k) (sym (cond-true (nat_lt 13 (direction x y z)) (n * n * n) 0 t))
      ∙ start-cells_first n g x y z hx hy hz

  pub start-early : direction x y z ≤ 13 → ghost_start n g (direction x y z) ≡ cells_first n g x y z
  start-early early =
      let t : nat_lt 13 (direction x y z) ≡ false = grind (arith, nat_tests) in
      (let e : ghost_start n g (direction x y z) ≡ ghost_start n g (direction x y z) + 0 = omega arith in e)
      ∙ ap (λ k. ghost_start n g (direction x y z) + k) (sym (cond-false (nat_lt 13 (direction x y z)) (n * n * n) 0 t))
      ∙ start-cells_first n g x y z hx hy hz

-- the sum as it is computed
pub cells_first-of : (n g x y z a b c d e f : ℕ) → a ≡ cells_before n g z → b ≡ side_length n g z → c ≡ cells_before n g y → d ≡ side_length n g z → e ≡ side_length n g y → f ≡ cells_before n g x → a * (n + 2 * g) * (n + 2 * g) + b * c * (n + 2 * g) + d * e * f ≡ cells_first n g x y z
cells_first-of n g x y z a b c d e f ha hb hc hd he hf = cc

-- ---- the number of a cell in the box of its direction

pub sides_apart : (x y z : ℕ) → x < 3 → y < 3 → z < 3 → (direction x y z % 3 ≡ x) × (direction x y z / 3 % 3 ≡ y) × (direction x y z / 9 ≡ z)
sides_apart x y z hx hy hz = (omega arith, omega arith, omega arith)

pub sides-same : {x y z u v w : ℕ} → x ≡ u → y ≡ v → z ≡ w → direction x y z ≡ direction u v w
sides-same hx hy hz = cc

pub number-below : (a b c p q r : ℕ) → p < a → q < b → r < c → (r * b + q) * a + p < c * b * a
number-below a b c p q r hp hq hr =
    let rows : r * b + q < c * b = subst (λ k. r * b + q < k) (mul_comm b c) (mul-add-lt r b q c hr hq) in
    let w : (r * b + q) * a + p < a * (c * b) = mul-add-lt (r * b + q) a p (c * b) rows hp in
    subst (λ k. (r * b + q) * a + p < k) (mul_comm a (c * b)) w

-- other than in the block itself the box is all ghosts
pub box-ghost_size : (n g x y z : ℕ) → x < 3 → y < 3 → z < 3 → (direction x y z ≡ 13 → ⊥) → side_length n g z * side_length n g y * side_length n g x ≡ ghost_size n g (direction x y z)
box-ghost_size n g x y z hx hy hz other =
    let d = direction x y z in
    let s = sides_apart x y z hx hy hz in
    let t : (d == 13) ≡ false = grind (arith, nat_tests) in
    (let e : side_length n g z * side_length n g y * side_length n g x ≡ side_length n g x * side_length n g y * side_length n g z = omega arith in e)
    ∙ sym (ap (λ k. side_length n g k * side_length n g y * side_length n g z) s.0)
    ∙ sym (ap (λ k. side_length n g (d % 3) * side_length n g k * side_length n g z) s.1)
    ∙ sym (ap (λ k. side_length n g (d % 3) * side_length n g (d / 3 % 3) * side_length n g k) s.2)
    ∙ sym (cond-false (d == 13) 0 (side_length n g (d % 3) * side_length n g (d / 3 % 3) * side_length n g (d / 9)) t)

pub length-most : (n g s : ℕ) → n ≤ 16 → g ≤ 2 → side_length n g s ≤ 16
length-most n g s hn hg = grind (arith, nat_tests)

module _ (n g x y z p q r a b : ℕ) (hx : x < 3) (hy : y < 3) (hz : z < 3) (hp : p < side_length n g x) (hq : q < side_length n g y) (hr : r < side_length n g z) (ha : a ≡ side_length n g x) (hb : b ≡ side_length n g y) where
  number-box : (r * b + q) * a + p < side_length n g z * side_length n g y * side_length n g x
  number-box =
      subst (λ k. (r * b + q) * k + p < side_length n g z * side_length n g y * side_length n g x) (sym ha)
      (subst (λ k. (r * k + q) * side_length n g x + p < side_length n g z * side_length n g y * side_length n g x) (sym hb)
      (number-below (side_length n g x) (side_length n g y) (side_length n g z) p q r hp hq hr))

  pub number-small : n ≤ 16 → g ≤ 2 → (r * b + q) * a + p < 4096
  number-small hn hg =
      let rows : side_length n g z * side_length n g y ≤ 256 = mul-le (side_length n g z) (side_length n g y) 16 16 (length-most n g z hn hg) (length-most n g y hn hg) in
      let most : side_length n g z * side_length n g y * side_length n g x ≤ 4096 = mul-le (side_length n g z * side_length n g y) (side_length n g x) 256 16 rows (length-most n g x hn hg) in
      omega (arith, number-box)

  pub number-own : direction x y z ≡ 13 → (r * b + q) * a + p < n * n * n
  number-own own =
      let e : (x ≡ 1) × (y ≡ 1) × (z ≡ 1) = (omega arith, omega arith, omega arith) in
      let k = number-box in
      subst (λ s. (r * b + q) * a + p < n * n * side_length n g s) e.0
      (subst (λ s. (r * b + q) * a + p < n * side_length n g s * side_length n g x) e.1
      (subst (λ s. (r * b + q) * a + p < side_length n g s * side_length n g y * side_length n g x) e.2 k))

  pub number-ghost : (direction x y z ≡ 13 → ⊥) → (r * b + q) * a + p < ghost_size n g (direction x y z)
  number-ghost other = subst (λ k. (r * b + q) * a + p < k) (box-ghost_size n g x y z hx hy hz other) number-box

  pub number-in_count : (direction x y z ≡ 13 → ⊥) → ghost_start n g (direction x y z) + ((r * b + q) * a + p) < ghost_count n g
  number-in_count other =
      let w = start-within_count n g (direction x y z) (omega arith) in
      let k = number-ghost other in
      omega arith

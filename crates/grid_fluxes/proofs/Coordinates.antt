-- The coordinate after a coordinate along an axis, and the one before it, over plain numbers.
use Rattle.std.proofs.Common.{◌≡◌, ℕ, zero, suc, ◌+◌, ◌-◌, ◌*◌, ◌/◌, ◌%◌, ◌^◌, ◌<◌, ◌≤◌, Bool, true, false, cond, ◌==◌, ◌⊎◌, inl, inr, refl, sym, ap, ◌∙◌, subst, arith, pos, negsuc, ◌+ℤ◌}
use Rattle.std.proofs.lemmas.Bool.{cond-true, cond-false, cases_eq, cases_lt, eq-eqb, ne_eqb}
use Rattle.std.proofs.lemmas.Int.{ints}
use Rattle.std.proofs.lemmas.Nat.{div_below, mod_below, mul-add-lt, div-mul-add, mod-mul-add, div-add-mod', pow-add}
use Rattle.block_index.specs.Axes.{IsNext}
use Rattle.grid_fluxes.specs.Axes.{next_coordinate, previous_coordinate}

pub next_end : (w : Bool) (m x : ℕ) → x + 1 ≡ m → next_coordinate w m x ≡ cond w 0 m
next_end w m x e = cond-true (x + 1 == m) (cond w 0 m) (x + 1) (eq-eqb (x + 1) m e)

pub next_on : (w : Bool) (m x : ℕ) → (x + 1 ≡ m → ⊥) → next_coordinate w m x ≡ x + 1
next_on w m x n = cond-false (x + 1 == m) (cond w 0 m) (x + 1) (ne_eqb (x + 1) m n)

pub previous_end : (w : Bool) (m y : ℕ) → y ≡ 0 → previous_coordinate w m y ≡ cond w (m - 1) m
previous_end w m y e = cond-true (y == 0) (cond w (m - 1) m) (y - 1) (eq-eqb y 0 e)

pub previous_on : (w : Bool) (m y : ℕ) → (y ≡ 0 → ⊥) → previous_coordinate w m y ≡ y - 1
previous_on w m y n = cond-false (y == 0) (cond w (m - 1) m) (y - 1) (ne_eqb y 0 n)

-- ---- there and back

back_end : (w : Bool) (m x : ℕ) → x + 1 ≡ m → previous_coordinate w m (cond w 0 m) ≡ x
back_end true m x e = omega arith
back_end false m x e = previous_on false m m (λ z. omega arith) ∙ (let f : m - 1 ≡ x = omega arith in f)

pub previous_coordinate-next : (w : Bool) (m x : ℕ) → previous_coordinate w m (next_coordinate w m x) ≡ x
previous_coordinate-next w m x =
    elim (cases_eq (x + 1) m) [
      | inl e ↦ ap (previous_coordinate w m) (next_end w m x e) ∙ back_end w m x e
      | inr n ↦ ap (previous_coordinate w m) (next_on w m x n) ∙ previous_on w m (x + 1) (λ e. omega arith) ∙ (let e : x + 1 - 1 ≡ x = omega arith in e)
    ]

forth_end : (w : Bool) (m : ℕ) → 0 < m → cond w (m - 1) m < m → next_coordinate w m (cond w (m - 1) m) ≡ 0
forth_end true m h k = next_end true m (m - 1) (omega arith)
forth_end false m h k = absurd (omega arith)

pub next_coordinate-previous : (w : Bool) (m y : ℕ) → y < m → previous_coordinate w m y < m → next_coordinate w m (previous_coordinate w m y) ≡ y
next_coordinate-previous w m y h k =
    elim (cases_eq y 0) [
      | inl e ↦
          ap (next_coordinate w m) (previous_end w m y e)
          ∙ forth_end w m (omega arith) (subst (λ u. u < m) (previous_end w m y e) k)
          ∙ sym e
      | inr n ↦
          ap (next_coordinate w m) (previous_on w m y n)
          ∙ next_on w m (y - 1) (λ e. omega arith)
          ∙ (let e : y - 1 + 1 ≡ y = omega arith in e)
    ]

-- ---- halves

half_end : (w : Bool) (m : ℕ) → cond w (2 * m - 1) (2 * m) / 2 ≡ cond w (m - 1) m
half_end true m = omega arith
half_end false m = omega arith

-- the one before an even coordinate lies in what lies before its half
pub previous-half : (w : Bool) (m y : ℕ) → y % 2 ≡ 0 → previous_coordinate w (2 * m) y / 2 ≡ previous_coordinate w m (y / 2)
previous-half w m y even =
    elim (cases_eq y 0) [
      | inl e ↦
          ap (λ u. u / 2) (previous_end w (2 * m) y e) ∙ half_end w m ∙ sym (previous_end w m (y / 2) (omega arith))
      | inr n ↦
          ap (λ u. u / 2) (previous_on w (2 * m) y n)
          ∙ (let e : (y - 1) / 2 ≡ y / 2 - 1 = omega arith in e)
          ∙ sym (previous_on w m (y / 2) (λ e. n (omega arith)))
    ]

zero_even : (w : Bool) (m : ℕ) → cond w 0 m < m → cond w 0 m % 2 ≡ 1 → ⊥
zero_even true m h o = omega arith
zero_even false m h o = omega arith

-- an odd coordinate lies in the same half as the one before it
pub next-odd : (w : Bool) (m x : ℕ) → next_coordinate w m x < m → next_coordinate w m x % 2 ≡ 1 → next_coordinate w m x / 2 ≡ x / 2
next-odd w m x h o =
    elim (cases_eq (x + 1) m) [
      | inl e ↦
          let f = next_end w m x e in
          absurd (zero_even w m (subst (λ u. u < m) f h) (subst (λ u. u % 2 ≡ 1) f o))
      | inr n ↦
          let f = next_on w m x n in
          let odd : (x + 1) % 2 ≡ 1 = subst (λ u. u % 2 ≡ 1) f o in
          ap (λ u. u / 2) f ∙ (let e : (x + 1) / 2 ≡ x / 2 = omega arith in e)
    ]

pub previous-odd : (w : Bool) (m y : ℕ) → y % 2 ≡ 1 → previous_coordinate w m y / 2 ≡ y / 2
previous-odd w m y o =
    ap (λ u. u / 2) (previous_on w m y (λ e. omega (arith, ap (λ u. u % 2) e))) ∙ (let e : (y - 1) / 2 ≡ y / 2 = omega arith in e)

-- ---- blocks of n cells

pub inside_cell : (k n x : ℕ) → 0 < n → x / n < k → x < k * n
inside_cell k n x some h =
    let w = mul-add-lt (x / n) n (x % n) k h (mod_below x n some) in
    let e = div-add-mod' x n in
    omega arith

pub stays : (k : ℕ) (w : Bool) (x : ℕ) → x < k → IsNext k w (pos 0) x x
stays k w x h = record { inside = h; at = inl (omega (arith, ints)) }

next_block_end : (w : Bool) (k n x : ℕ) → 0 < n → x < k * n → x + 1 ≡ k * n → cond w 0 (k * n) < k * n → IsNext k w (pos 1) (x / n) (cond w 0 (k * n) / n) × (cond w 0 (k * n) % n ≡ 0)
next_block_end true k n x some h e l =
    let b : x / n < k = div_below x n k some h in
    let s = div-add-mod' x n in
    let r = mod_below x n some in
    let z : 0 / n ≡ 0 = ap (λ u. u / n) (let f : 0 ≡ 0 * n + 0 = omega arith in f) ∙ div-mul-add 0 n 0 some in
    let q : x / n + 1 ≡ k = top x n k some h e in (
      record { inside = omega arith; at = inr (refl, inl (ap pos (let f : 0 / n + k ≡ x / n + 1 = omega arith in f) ∙ plus (x / n))) },
      ap (λ u. u % n) (let f : 0 ≡ 0 * n + 0 = omega arith in f) ∙ mod-mul-add 0 n 0 some,
    )
  where
    plus : (u : ℕ) → pos (u + 1) ≡ pos u +ℤ pos 1
    plus u = omega (arith, ints)

    top : (x n k : ℕ) → 0 < n → x < k * n → x + 1 ≡ k * n → x / n + 1 ≡ k
    top x n zero some h e = absurd (omega arith)
    top x n (suc k) some h e =
        let f : x ≡ k * n + (n - 1) = omega arith in
        ap (λ u. u / n + 1) f ∙ ap (λ u. u + 1) (div-mul-add k n (n - 1) (omega arith)) ∙ (let g : k + 1 ≡ suc k = omega arith in g)
next_block_end false k n x some h e l = absurd (omega arith)

up_one : (u : ℕ) → pos (u + 1) ≡ pos u +ℤ pos 1
up_one u = omega (arith, ints)

-- the next cell lies in the same block, or is the first of the next block
pub next-block : (w : Bool) (k n x : ℕ) → 0 < n → x < k * n → next_coordinate w (k * n) x < k * n → (next_coordinate w (k * n) x / n ≡ x / n) ⊎ (IsNext k w (pos 1) (x / n) (next_coordinate w (k * n) x / n) × (next_coordinate w (k * n) x % n ≡ 0))
next-block w k n x some h l =
    elim (cases_eq (x + 1) (k * n)) [
      | inl e ↦
          let f = next_end w (k * n) x e in
          inr (subst (λ u. IsNext k w (pos 1) (x / n) (u / n) × (u % n ≡ 0)) (sym f) (next_block_end w k n x some h e (subst (λ u. u < k * n) f l)))
      | inr ne ↦
          let f = next_on w (k * n) x ne in
          let b : x + 1 < k * n = subst (λ u. u < k * n) f l in
          subst (λ u. (u / n ≡ x / n) ⊎ (IsNext k w (pos 1) (x / n) (u / n) × (u % n ≡ 0))) (sym f) (inner b)
    ]
  where
    inner : x + 1 < k * n → ((x + 1) / n ≡ x / n) ⊎ (IsNext k w (pos 1) (x / n) ((x + 1) / n) × ((x + 1) % n ≡ 0))
    inner b =
        let s = div-add-mod' x n in
        let r = mod_below x n some in
        elim (cases_lt (x % n + 1) n) [
          | inl less ↦
              inl (ap (λ u. u / n) (let e : x + 1 ≡ x / n * n + (x % n + 1) = omega arith in e) ∙ div-mul-add (x / n) n (x % n + 1) less)
          | inr more ↦
              let e : x + 1 ≡ (x / n + 1) * n + 0 = omega arith in
              let d : (x + 1) / n ≡ x / n + 1 = ap (λ u. u / n) e ∙ div-mul-add (x / n + 1) n 0 some in
              let m : (x + 1) % n ≡ 0 = ap (λ u. u % n) e ∙ mod-mul-add (x / n + 1) n 0 some in
              inr (record { inside = div_below (x + 1) n k some b; at = inl (ap pos d ∙ up_one (x / n)) }, m)
        ]

previous_block_end : (w : Bool) (k n y : ℕ) → 0 < n → y < k * n → y ≡ 0 → cond w (k * n - 1) (k * n) < k * n → IsNext k w (negsuc 0) (y / n) (cond w (k * n - 1) (k * n) / n) × (cond w (k * n - 1) (k * n) % n ≡ n - 1)
previous_block_end true zero n y some h e l = absurd (omega arith)
previous_block_end true (suc k) n y some h e l =
    let f : suc k * n - 1 ≡ k * n + (n - 1) = omega arith in
    let d : (suc k * n - 1) / n ≡ k = ap (λ u. u / n) f ∙ div-mul-add k n (n - 1) (omega arith) in
    let z : y / n ≡ 0 = ap (λ u. u / n) (let f : y ≡ 0 * n + 0 = omega arith in f) ∙ div-mul-add 0 n 0 some in (
      record { inside = omega arith; at = inr (refl, inr (ap pos d ∙ down k ∙ ap (λ u. pos (u + suc k) +ℤ negsuc 0) (sym z))) },
      ap (λ u. u % n) f ∙ mod-mul-add k n (n - 1) (omega arith),
    )
  where
    down : (k : ℕ) → pos k ≡ pos (0 + suc k) +ℤ negsuc 0
    down k = omega (arith, ints)
previous_block_end false k n y some h e l = absurd (omega arith)

down_one : (u v : ℕ) → u ≡ v + 1 → pos v ≡ pos u +ℤ negsuc 0
down_one u v e = omega (arith, ints)

-- the cell before lies in the same block, or is the last of the block before
pub previous-block : (w : Bool) (k n y : ℕ) → 0 < n → y < k * n → previous_coordinate w (k * n) y < k * n → (previous_coordinate w (k * n) y / n ≡ y / n) ⊎ (IsNext k w (negsuc 0) (y / n) (previous_coordinate w (k * n) y / n) × (previous_coordinate w (k * n) y % n ≡ n - 1))
previous-block w k n y some h l =
    elim (cases_eq y 0) [
      | inl e ↦
          let f = previous_end w (k * n) y e in
          inr (subst (λ u. IsNext k w (negsuc 0) (y / n) (u / n) × (u % n ≡ n - 1)) (sym f) (previous_block_end w k n y some h e (subst (λ u. u < k * n) f l)))
      | inr ne ↦
          subst (λ u. (u / n ≡ y / n) ⊎ (IsNext k w (negsuc 0) (y / n) (u / n) × (u % n ≡ n - 1))) (sym (previous_on w (k * n) y ne)) (inner ne)
    ]
  where
    inner : (y ≡ 0 → ⊥) → ((y - 1) / n ≡ y / n) ⊎ (IsNext k w (negsuc 0) (y / n) ((y - 1) / n) × ((y - 1) % n ≡ n - 1))
    inner ne =
        let s = div-add-mod' y n in
        let r = mod_below y n some in
        elim (cases_lt 0 (y % n)) [
          | inl more ↦
              inl (ap (λ u. u / n) (let e : y - 1 ≡ y / n * n + (y % n - 1) = omega arith in e) ∙ div-mul-add (y / n) n (y % n - 1) (omega arith))
          | inr none ↦
              let q : (p : ℕ) × (y / n ≡ p + 1) = above (y / n) (λ z. ne (let a = ap (λ u. u * n) z in omega arith)) in
              let t = ap (λ u. u * n) q.1 in
              let e : y - 1 ≡ q.0 * n + (n - 1) = omega arith in
              let d : (y - 1) / n ≡ q.0 = ap (λ u. u / n) e ∙ div-mul-add q.0 n (n - 1) (omega arith) in
              let m : (y - 1) % n ≡ n - 1 = ap (λ u. u % n) e ∙ mod-mul-add q.0 n (n - 1) (omega arith) in
              inr (record { inside = div_below (y - 1) n k some (omega arith); at = inl (ap pos d ∙ down_one (y / n) q.0 q.1) }, m)
        ]
      where
        above : (u : ℕ) → (u ≡ 0 → ⊥) → (p : ℕ) × (u ≡ p + 1)
        above zero n = absurd (n refl)
        above (suc p) n = (p, omega arith)

-- the finer cells in the first cell of a block lie in its lower half, and those in the last cell in its upper half
pub first_half : (n v b : ℕ) → 2 ≤ n → v % n ≡ 0 → b < 2 → (2 * v + b) / n % 2 ≡ 0
first_half n v b some z h =
    let s = div-add-mod' v n in
    let e : 2 * v + b ≡ 2 * (v / n) * n + b = omega arith in
    ap (λ u. u / n % 2) e ∙ ap (λ u. u % 2) (div-mul-add (2 * (v / n)) n b (omega arith)) ∙ (let f : 2 * (v / n) % 2 ≡ 0 = omega arith in f)

pub last_half : (n v b : ℕ) → 2 ≤ n → v % n ≡ n - 1 → b < 2 → (2 * v + b) / n % 2 ≡ 1
last_half n v b some z h =
    let s = div-add-mod' v n in
    let e : 2 * v + b ≡ (2 * (v / n) + 1) * n + (n - 2 + b) = omega arith in
    ap (λ u. u / n % 2) e ∙ ap (λ u. u % 2) (div-mul-add (2 * (v / n) + 1) n (n - 2 + b) (omega arith)) ∙ (let f : (2 * (v / n) + 1) % 2 ≡ 1 = omega arith in f)

-- an axis of the next level is twice as long
pub twice_along : (t n l : ℕ) → t * 2 ^ (l + 1) * n ≡ 2 * (t * 2 ^ l * n)
twice_along t n l = omega (arith, ap (λ w. t * w * n) (pow-add 2 l 1))

-- ---- the finer coordinates at a face

double_end : (w : Bool) (m x : ℕ) → x + 1 ≡ m → previous_coordinate w (2 * m) (2 * cond w 0 m + 0) ≡ 2 * x + 1
double_end true m x e = previous_end true (2 * m) (2 * 0 + 0) (omega arith) ∙ (let f : 2 * m - 1 ≡ 2 * x + 1 = omega arith in f)
double_end false m x e = previous_on false (2 * m) (2 * m + 0) (λ z. omega arith) ∙ (let f : 2 * m + 0 - 1 ≡ 2 * x + 1 = omega arith in f)

pub previous_double : (w : Bool) (m x : ℕ) → previous_coordinate w (2 * m) (2 * next_coordinate w m x + 0) ≡ 2 * x + 1
previous_double w m x =
    elim (cases_eq (x + 1) m) [
      | inl e ↦ ap (λ u. previous_coordinate w (2 * m) (2 * u + 0)) (next_end w m x e) ∙ double_end w m x e
      | inr n ↦
          ap (λ u. previous_coordinate w (2 * m) (2 * u + 0)) (next_on w m x n)
          ∙ previous_on w (2 * m) (2 * (x + 1) + 0) (λ z. omega arith)
          ∙ (let f : 2 * (x + 1) + 0 - 1 ≡ 2 * x + 1 = omega arith in f)
    ]

pub previous_twice : (w : Bool) (m y : ℕ) → previous_coordinate w m y < m → previous_coordinate w (2 * m) (2 * y + 0) ≡ 2 * previous_coordinate w m y + 1
previous_twice w m y h =
    elim (cases_eq y 0) [
      | inl e ↦
          let f = previous_end w m y e in
          previous_end w (2 * m) (2 * y + 0) (omega arith) ∙ twice_end w m (subst (λ u. u < m) f h) ∙ ap (λ u. 2 * u + 1) (sym f)
      | inr n ↦
          let f = previous_on w m y n in
          previous_on w (2 * m) (2 * y + 0) (λ z. n (omega arith))
          ∙ (let g : 2 * y + 0 - 1 ≡ 2 * (y - 1) + 1 = omega arith in g)
          ∙ ap (λ u. 2 * u + 1) (sym f)
    ]
  where
    twice_end : (w : Bool) (m : ℕ) → cond w (m - 1) m < m → cond w (2 * m - 1) (2 * m) ≡ 2 * cond w (m - 1) m + 1
    twice_end true m h = omega arith
    twice_end false m h = absurd (omega arith)

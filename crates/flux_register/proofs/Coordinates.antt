-- Where blocks meet, along an axis and across it, over plain numbers.
use Rattle.std.proofs.Common.{◌≡◌, ℕ, ◌+◌, ◌-◌, ◌*◌, ◌/◌, ◌%◌, ◌<◌, ◌≤◌, Bool, true, false, cond, sym, ap, ◌∙◌, subst, arith, inl, inr}
use Rattle.std.proofs.lemmas.Bool.{cases_eq}
use Rattle.std.proofs.lemmas.Nat.{mod_below, div-mul-add, mod-mul-add, div-add-mod'}
use Rattle.grid_fluxes.specs.Axes.{next_coordinate, previous_coordinate}
use Rattle.grid_fluxes.proofs.Coordinates.{next_end, next_on, previous_end, previous_on, previous_twice}

-- after the last cell of a place comes the first one of the next place, or the outside
pub next-place : (w : Bool) (k n q x : ℕ) → 0 < n → x ≡ q * n + (n - 1) → next_coordinate w (k * n) x ≡ next_coordinate w (k * 1) q * n
next-place w k n q x some is = elim (cases_eq (q + 1) k) [
  | inl end ↦
      let m : x + 1 ≡ k * n = (let e : x + 1 ≡ (q + 1) * n = omega (arith, is) in e ∙ ap (λ (u : ℕ). u * n) end) in
      next_end w (k * n) x m ∙ (last w ∙ ap (λ (u : ℕ). u * n) (sym (next_end w (k * 1) q (omega (arith, end)))))
  | inr on ↦
      let m : x + 1 ≡ (q + 1) * n = omega (arith, is) in
      next_on w (k * n) x (λ e. on (same_factor (q + 1) k n some (sym m ∙ e))) ∙ (m ∙ ap (λ (u : ℕ). u * n) (sym (next_on w (k * 1) q (λ e. on (omega (arith, e))))))
]
  where
    last : (b : Bool) → cond b 0 (k * n) ≡ cond b 0 (k * 1) * n
    last true = (let e : 0 ≡ 0 * n = omega arith in e)
    last false = ap (λ (u : ℕ). u * n) (let e : k ≡ k * 1 = omega arith in e)

    same_factor : (a b m : ℕ) → 0 < m → a * m ≡ b * m → a ≡ b
    same_factor a b m h e = sym (quotient a m h) ∙ (ap (λ (u : ℕ). u / m) e ∙ quotient b m h)
      where
        quotient : (a m : ℕ) → 0 < m → a * m / m ≡ a
        quotient a m h = ap (λ (u : ℕ). u / m) (let e : a * m ≡ a * m + 0 = omega arith in e) ∙ div-mul-add a m 0 h

-- before the first cell of a place comes the last one of the previous place, where it is inside
pub previous-place : (w : Bool) (k n q x : ℕ) → 0 < n → x ≡ q * n → q < k → previous_coordinate w (k * 1) q < k → previous_coordinate w (k * n) x ≡ previous_coordinate w (k * 1) q * n + (n - 1)
previous-place w k n q x some is within inside = elim (cases_eq q 0) [
  | inl first ↦
      let x0 : x ≡ 0 = is ∙ (ap (λ (u : ℕ). u * n) first ∙ (let e : 0 * n ≡ 0 = omega arith in e)) in
      previous_end w (k * n) x x0 ∙ round w (subst (λ (u : ℕ). u < k) (previous_end w (k * 1) q first) inside) ∙ ap (λ (u : ℕ). u * n + (n - 1)) (sym (previous_end w (k * 1) q first))
  | inr on ↦
      let one : 1 ≤ q = omega (arith, on) in
      let rows : q * n ≡ (q - 1) * n + n = back q n one in
      let some_x : x ≡ 0 → ⊥ = λ e. omega (arith, is, e, rows, some) in
      previous_on w (k * n) x some_x ∙ ((let e : x - 1 ≡ (q - 1) * n + (n - 1) = omega (arith, is, rows, some) in e) ∙ ap (λ (u : ℕ). u * n + (n - 1)) (sym (previous_on w (k * 1) q on)))
]
  where
    back : (q n : ℕ) → 1 ≤ q → q * n ≡ (q - 1) * n + n
    back q n h = ap (λ (u : ℕ). u * n) (let e : q ≡ q - 1 + 1 = omega (arith, h) in e) ∙ row (q - 1) n
      where
        row : (a n : ℕ) → (a + 1) * n ≡ a * n + n
        row a n = omega arith

    round : (b : Bool) → cond b (k * 1 - 1) (k * 1) < k → cond b (k * n - 1) (k * n) ≡ cond b (k * 1 - 1) (k * 1) * n + (n - 1)
    round true h = (let rows = back k n (omega (arith, h)) in let one : k * 1 - 1 ≡ k - 1 = omega arith in (let e : k * n - 1 ≡ (k - 1) * n + (n - 1) = omega (arith, rows, some) in e) ∙ ap (λ (u : ℕ). u * n + (n - 1)) (sym one))
    round false h = absurd (omega (arith, h))

-- the finer coordinates across: in the half r of the place, a cell at i is twice as fine at 2 * (i % h)
pub finer-across : (n h q i r b : ℕ) → n ≡ 2 * h → i / h ≡ r → (2 * q + r) * n + (2 * (i % h) + b) ≡ 2 * (q * n + i) + b
finer-across n h q i r b even half =
    let whole : i / h * h + i % h ≡ i = div-add-mod' i h in
    let at : r * h + i % h ≡ i = ap (λ (u : ℕ). u * h + i % h) (sym half) ∙ whole in
    let left : (2 * q + r) * n ≡ 2 * (q * n) + 2 * (r * h) = ap (λ (u : ℕ). (2 * q + r) * u) even ∙ (spread q r h ∙ ap (λ (u : ℕ). 2 * (q * u) + 2 * (r * h)) (sym even)) in
    omega (arith, left, at)
  where
    spread : (q r h : ℕ) → (2 * q + r) * (2 * h) ≡ 2 * (q * (2 * h)) + 2 * (r * h)
    spread q r h = omega arith

-- a coordinate by its half
by_half : (p : ℕ) → p ≡ 2 * (p / 2) + p % 2
by_half p = let e : p / 2 * 2 + p % 2 ≡ p = div-add-mod' p 2 in omega (arith, e)

exact : (a n : ℕ) → 0 < n → (a * n + 0) / n ≡ a
exact a n h = div-mul-add a n 0 h

-- Along the axis: the finer cells past the last cell of a place are the first ones of the finer place.
pub along-end : (w : Bool) (k n q p c : ℕ) → 0 < n → c / n ≡ q → c % n ≡ n - 1 → p / 2 ≡ next_coordinate w (k * 1) q → p % 2 ≡ 0 → ((2 * next_coordinate w (k * n) c + 0) / n ≡ p) × ((2 * next_coordinate w (k * n) c + 0) % n ≡ 0)
along-end w k n q p c some own last beside near =
    let whole : c / n * n + c % n ≡ c = div-add-mod' c n in
    let at : c ≡ q * n + (n - 1) = sym whole ∙ (ap (λ (u : ℕ). u * n + c % n) own ∙ ap (λ (u : ℕ). q * n + u) last) in
    let next = next-place w k n q c some at in
    let half = by_half p in
    let double : p ≡ 2 * next_coordinate w (k * 1) q = omega (arith, half, beside, near) in
    let is : 2 * next_coordinate w (k * n) c + 0 ≡ p * n + 0 = twice (next_coordinate w (k * n) c) (next_coordinate w (k * 1) q) p n next double in
    (ap (λ (u : ℕ). u / n) is ∙ div-mul-add p n 0 some, ap (λ (u : ℕ). u % n) is ∙ mod-mul-add p n 0 some)
  where
    twice : (a b p n : ℕ) → a ≡ b * n → p ≡ 2 * b → 2 * a + 0 ≡ p * n + 0
    twice a b p n e f = let g : p * n ≡ 2 * b * n = ap (λ (u : ℕ). u * n) f in let r : 2 * b * n ≡ 2 * (b * n) = omega arith in omega (arith, e, g, r)

-- The finer cells before the first cell of a place are the last ones of the finer place; so is what lies in the cell
-- before it.
pub along-low : (w : Bool) (k n q p c : ℕ) → 2 ≤ n → c / n ≡ q → c % n ≡ 0 → q < k → p / 2 ≡ previous_coordinate w (k * 1) q → p % 2 ≡ 1 → p < 2 * k
    → (previous_coordinate w (2 * k * n) (2 * c + 0) / n ≡ p) × (previous_coordinate w (2 * k * n) (2 * c + 0) % n ≡ n - 1) × ((2 * previous_coordinate w (k * n) c + 0) / n ≡ p)
along-low w k n q p c two own first within beside near inside =
    let some : 0 < n = omega (arith, two) in
    let whole : c / n * n + c % n ≡ c = div-add-mod' c n in
    let at : c ≡ q * n = sym whole ∙ (ap (λ (u : ℕ). u * n + c % n) own ∙ (ap (λ (u : ℕ). q * n + u) first ∙ (let e : q * n + 0 ≡ q * n = omega arith in e))) in
    let half = by_half p in
    let odd : p ≡ 2 * previous_coordinate w (k * 1) q + 1 = omega (arith, half, beside, near) in
    let there : previous_coordinate w (k * 1) q < k = omega (arith, odd, inside) in
    let fine : 2 * c + 0 ≡ 2 * q * n = (let e : 2 * (q * n) ≡ 2 * q * n = omega arith in omega (arith, at, e)) in
    let twice : previous_coordinate w (2 * k * 1) (2 * q) ≡ p =
    ap (λ (u : ℕ). previous_coordinate w u (2 * q)) (let e : 2 * k * 1 ≡ 2 * (k * 1) = omega arith in e)
    ∙ (ap (previous_coordinate w (2 * (k * 1))) (let e : 2 * q ≡ 2 * q + 0 = omega arith in e)
    ∙ (previous_twice w (k * 1) q (omega (arith, there)) ∙ sym odd)) in
    let back = previous-place w (2 * k) n (2 * q) (2 * c + 0) some fine (omega (arith, within)) (omega (arith, twice, inside)) in
    let is : previous_coordinate w (2 * k * n) (2 * c + 0) ≡ p * n + (n - 1) = back ∙ ap (λ (u : ℕ). u * n + (n - 1)) twice in
    let low = previous-place w k n q c some at within there in
    let lies : 2 * previous_coordinate w (k * n) c + 0 ≡ p * n + (n - 2) = double (previous_coordinate w (k * n) c) (previous_coordinate w (k * 1) q) p n two low odd in
    let small : n - 1 < n = omega (arith, two) in
    let smaller : n - 2 < n = omega (arith, two) in
    (ap (λ (u : ℕ). u / n) is ∙ div-mul-add p n (n - 1) small, ap (λ (u : ℕ). u % n) is ∙ mod-mul-add p n (n - 1) small, ap (λ (u : ℕ). u / n) lies ∙ div-mul-add p n (n - 2) smaller)
  where
    double : (a b p n : ℕ) → 2 ≤ n → a ≡ b * n + (n - 1) → p ≡ 2 * b + 1 → 2 * a + 0 ≡ p * n + (n - 2)
    double a b p n two e f =
        let g : p * n ≡ (2 * b + 1) * n = ap (λ (u : ℕ). u * n) f in
        let r : (2 * b + 1) * n ≡ 2 * (b * n) + n = omega arith in
        omega (arith, e, g, r, two)

-- Across the axis: the finer cells beside a cell lie in the half of the finer place.
pub across : (n h q p c b : ℕ) → n ≡ 2 * h → 0 < h → b < 2 → c / n ≡ q → p / 2 ≡ q → c % n / h ≡ p % 2 → ((2 * c + b) / n ≡ p) × ((2 * c + b) % n ≡ 2 * (c % n % h) + b)
across n h q p c b even some bit own beside half =
    let some_n : 0 < n = omega (arith, even, some) in
    let whole : c / n * n + c % n ≡ c = div-add-mod' c n in
    let at : q * n + c % n ≡ c = ap (λ (u : ℕ). u * n + c % n) (sym own) ∙ whole in
    let is : p ≡ 2 * q + p % 2 = (let e = by_half p in omega (arith, e, beside)) in
    let fine = finer-across n h q (c % n) (p % 2) b even half in
    let all : 2 * c + b ≡ p * n + (2 * (c % n % h) + b) = (let e : p * n ≡ (2 * q + p % 2) * n = ap (λ (u : ℕ). u * n) is in omega (arith, e, fine, at)) in
    let small : c % n % h < h = mod_below (c % n) h some in
    let within : 2 * (c % n % h) + b < n = omega (arith, small, even, bit) in
    (ap (λ (u : ℕ). u / n) all ∙ div-mul-add p n (2 * (c % n % h) + b) within, ap (λ (u : ℕ). u % n) all ∙ mod-mul-add p n (2 * (c % n % h) + b) within)

-- Along an axis, the coordinates that the local coordinates of a block with its shell are moved to.
use Rattle.std.proofs.Common.{◌≡◌, ℕ, ◌+◌, ◌-◌, ◌*◌, ◌%◌, ◌<◌, ◌≤◌, ◌⊎◌, inl, inr, Bool, true, false, refl, sym, ap, ◌∙◌, arith, pos, negsuc, ◌+ℤ◌, ◌-ℤ◌, min}
use Rattle.std.proofs.lemmas.Bool.{cases_lt, cases_eq}
use Rattle.std.proofs.lemmas.Int.{ints}
use Rattle.std.proofs.lemmas.Nat.{mod-mul-add}
use Rattle.std.proofs.Math.Nat.{mod-eq_of_lt}
use Rattle.block_index.specs.Axes.{IsNext}
use Rattle.block_fields.specs.Samples.{moved}

-- How a local coordinate g of the block a is moved: v is the number u in the block p. An axis has t blocks of n cells,
-- and the shell is d cells deep.
pub data Moved (n d t : ℕ) (w : Bool) (a g v : ℕ) : Type 0 where
  inner : d ≤ g → g < n + d → v ≡ a * n + (g - d) → Moved n d t w a g v
  before : g < d → (p : ℕ) → IsNext t w (negsuc 0) a p → v ≡ p * n + (n + g - d) → Moved n d t w a g v
  after : n + d ≤ g → (p : ℕ) → IsNext t w (pos 1) a p → v ≡ p * n + (g - n - d) → Moved n d t w a g v
  held_first : g < d → v ≡ a * n + 0 → Moved n d t w a g v
  held_last : n + d ≤ g → v ≡ a * n + (n - 1) → Moved n d t w a g v

inside : (w : Bool) (m x : ℕ) → x < m → moved w m (pos x) ≡ x
inside true m x h = mod-eq_of_lt h
inside false m x h = omega arith

-- a block before the end of the axis
room : (n t a : ℕ) → a < t → a * n + n ≤ t * n
room n t a h =
    let k = t - (a + 1) in
    let e : t ≡ a + 1 + k = omega arith in
    omega (arith, ap (λ u. u * n) e)

back_one : (a p : ℕ) → a ≡ p + 1 → pos p ≡ pos a +ℤ negsuc 0
back_one a p e = omega (arith, ints)

on_one : (a p : ℕ) → p ≡ a + 1 → pos p ≡ pos a +ℤ pos 1
on_one a p e = omega (arith, ints)

shifted : (c d y : ℕ) → y + d ≡ c → pos c -ℤ pos d ≡ pos y
shifted c d y e = omega (arith, ints)

below_zero : (c d y : ℕ) → c + y + 1 ≡ d → pos c -ℤ pos d ≡ negsuc y
below_zero c d y e = omega (arith, ints)

wrapped_low : (m y : ℕ) → y < m → moved true m (negsuc y) ≡ m - 1 - y
wrapped_low m y h = ap (λ u. m - 1 - u) (mod-eq_of_lt h)

wrapped_high : (m y u : ℕ) → y ≡ m + u → u < m → moved true m (pos y) ≡ u
wrapped_high m y u e h = ap (λ k. k % m) (let f : y ≡ 1 * m + u = omega arith in f) ∙ mod-mul-add 1 m u h

module _ (n d t a : ℕ) (inside_axis : a < t) (deep : 2 * d ≤ n) where
  abbrev At : Bool → ℕ → Type 0
  At w g = Moved n d t w a g (moved w (t * n) (pos (a * n + g) -ℤ pos d))

  in_range : (w : Bool) (g y : ℕ) → y + d ≡ a * n + g → y < t * n → moved w (t * n) (pos (a * n + g) -ℤ pos d) ≡ y
  in_range w g y e h = ap (moved w (t * n)) (shifted (a * n + g) d y e) ∙ inside w (t * n) y h

  -- the coordinates before the block: in the last cells of the block before, or all in the first cell
  abbrev Low : Bool → Type 0
  Low w =
      ((p : ℕ) × IsNext t w (negsuc 0) a p × ((g : ℕ) → g < d → moved w (t * n) (pos (a * n + g) -ℤ pos d) ≡ p * n + (n + g - d)))
      ⊎ ((a ≡ 0) × (w ≡ false) × ((g : ℕ) → g < d → moved w (t * n) (pos (a * n + g) -ℤ pos d) ≡ a * n + 0))

  -- those after it: in the first cells of the block after, or all in the last cell
  abbrev High : Bool → Type 0
  High w =
      ((p : ℕ) × IsNext t w (pos 1) a p × ((g : ℕ) → n + d ≤ g → g < n + 2 * d → moved w (t * n) (pos (a * n + g) -ℤ pos d) ≡ p * n + (g - n - d)))
      ⊎ ((a + 1 ≡ t) × (w ≡ false) × ((g : ℕ) → n + d ≤ g → g < n + 2 * d → moved w (t * n) (pos (a * n + g) -ℤ pos d) ≡ a * n + (n - 1)))

  at_first : (w : Bool) → a ≡ 0 → Low w
  at_first true z =
      let p = t - 1 in
      let q : t ≡ p + 1 = omega arith in
      inl (
        p,
        record { inside = omega arith; at = inr (refl, inr (back_one (a + t) p (omega arith))) },
        λ g h.
            let y = d - 1 - g in
            let s : a * n ≡ 0 = ap (λ u. u * n) z ∙ (let e : 0 * n ≡ 0 = omega arith in e) in
            let r = room n t a inside_axis in
            let e = ap (moved true (t * n)) (below_zero (a * n + g) d y (omega arith)) ∙ wrapped_low (t * n) y (omega arith) in
            e ∙ (let f : t * n - 1 - y ≡ p * n + (n + g - d) = omega (arith, ap (λ u. u * n) q) in f),
      )
  at_first false z =
      inr (
        z,
        refl,
        λ g h.
            let y = d - 1 - g in
            let s : a * n ≡ 0 = ap (λ u. u * n) z ∙ (let e : 0 * n ≡ 0 = omega arith in e) in
            ap (moved false (t * n)) (below_zero (a * n + g) d y (omega arith)) ∙ (let f : 0 ≡ a * n + 0 = omega arith in f),
      )

  pub low : (w : Bool) → Low w
  low w =
      let r = room n t a inside_axis in
      elim (cases_eq a 0) [
        | inl z ↦ at_first w z
        | inr more ↦
            let p = a - 1 in
            let e : a ≡ p + 1 = omega arith in
            let f = ap (λ u. u * n) e in
            inl (
              p,
              record { inside = omega arith; at = inl (back_one a p e) },
              λ g h.
                  let y = a * n + g - d in
                  in_range w g y (omega arith) (omega arith) ∙ (let k : y ≡ p * n + (n + g - d) = omega arith in k),
            )
      ]

  at_last : (w : Bool) → a + 1 ≡ t → High w
  at_last true z =
      inl (
        0,
        record { inside = omega arith; at = inr (refl, inl (on_one a (0 + t) (omega arith))) },
        λ g h k.
            let y = a * n + g - d in
            let u = g - n - d in
            let s : t * n ≡ a * n + n = ap (λ u. u * n) (sym z) ∙ (let e : (a + 1) * n ≡ a * n + n = omega arith in e) in
            let e = ap (moved true (t * n)) (shifted (a * n + g) d y (omega arith)) ∙ wrapped_high (t * n) y u (omega arith) (omega arith) in
            e ∙ (let f : u ≡ 0 * n + (g - n - d) = omega arith in f),
      )
  at_last false z =
      inr (
        z,
        refl,
        λ g h k.
            let y = a * n + g - d in
            let s : t * n ≡ a * n + n = ap (λ u. u * n) (sym z) ∙ (let e : (a + 1) * n ≡ a * n + n = omega arith in e) in
            ap (moved false (t * n)) (shifted (a * n + g) d y (omega arith)) ∙ (let f : min y (t * n - 1) ≡ a * n + (n - 1) = omega arith in f),
      )

  pub high : (w : Bool) → High w
  high w =
      elim (cases_eq (a + 1) t) [
        | inl z ↦ at_last w z
        | inr more ↦
            inl (
              a + 1,
              record { inside = omega arith; at = inl (on_one a (a + 1) refl) },
              λ g h k.
                  let q = room n t (a + 1) (omega arith) in
                  let y = (a + 1) * n + (g - n - d) in
                  in_range w g y (omega arith) (omega arith),
            )
      ]

  pub middle : (w : Bool) (g : ℕ) → d ≤ g → g < n + d → moved w (t * n) (pos (a * n + g) -ℤ pos d) ≡ a * n + (g - d)
  middle w g h k = let r = room n t a inside_axis in in_range w g (a * n + (g - d)) (omega arith) (omega arith)

  pub moved_cases : (w : Bool) (g : ℕ) → g < n + 2 * d → At w g
  moved_cases w g h =
      elim (cases_lt g d) [
        | inl few ↦
            elim (low w) [
              | inl b ↦ before few b.0 b.1 (b.2 g few)
              | inr b ↦ held_first few (b.2 g few)
            ]
        | inr up ↦
            elim (cases_lt g (n + d)) [
              | inl mid ↦ inner up mid (middle w g up mid)
              | inr most ↦
                  elim (high w) [
                    | inl b ↦ after most b.0 b.1 (b.2 g most h)
                    | inr b ↦ held_last most (b.2 g most h)
                  ]
            ]
      ]

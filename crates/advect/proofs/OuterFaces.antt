-- Which faces of a block's cells are outer faces of the domain, on one axis of k blocks of n cells.
use Rattle.std.proofs.Common.{◌≡◌, ℕ, ◌+◌, ◌-◌, ◌*◌, ◌/◌, ◌%◌, ◌<◌, ◌≤◌, Bool, true, false, ◌&&◌, ◌||◌, ◌==◌, nat_le, cond, arith, ap, sym, ◌∙◌, inl, inr}
use Rattle.std.proofs.lemmas.Bool.{cases_eq}
use Rattle.std.proofs.lemmas.Bool.Decides.{nat_tests}
use Rattle.std.proofs.lemmas.Nat.{div-add-mod', div_below, mod_below, mul-le}
use Rattle.grid_fluxes.specs.Axes.{next_coordinate, previous_coordinate}
use Rattle.grid_fluxes.proofs.Coordinates.{next_end, next_on, previous_end, previous_on}

inside : (m y : ℕ) → y < m → nat_le m y ≡ false
inside m y h = grind (arith, nat_tests)

outside : (m : ℕ) → nat_le m m ≡ true
outside m = grind (arith, nat_tests)

none : (u p n k : ℕ) → u < n → ((u ≡ 0) → (p ≡ 0) → ⊥) → (((u == 0) && (p == 0)) || ((u == n) && (p + 1 == k))) ≡ false
none u p n k h apart =
    elim (cases_eq u 0) [
      | inl z ↦ let r : (p ≡ 0) → ⊥ = apart z in grind (arith, nat_tests)
      | inr o ↦ grind (arith, nat_tests)
    ]

both : (u p n k : ℕ) → u ≡ 0 → p ≡ 0 → (((u == 0) && (p == 0)) || ((u == n) && (p + 1 == k))) ≡ true
both u p n k h l = grind (arith, nat_tests)

none-after : (u p n k : ℕ) → ((u + 1 ≡ n) → (p + 1 ≡ k) → ⊥) → (((u + 1 == 0) && (p == 0)) || ((u + 1 == n) && (p + 1 == k))) ≡ false
none-after u p n k apart =
    elim (cases_eq (u + 1) n) [
      | inl z ↦ let r : (p + 1 ≡ k) → ⊥ = apart z in grind (arith, nat_tests)
      | inr o ↦ grind (arith, nat_tests)
    ]

both-after : (u p n k : ℕ) → u + 1 ≡ n → p + 1 ≡ k → (((u + 1 == 0) && (p == 0)) || ((u + 1 == n) && (p + 1 == k))) ≡ true
both-after u p n k h l = grind (arith, nat_tests)

module _ (k n x : ℕ) (some : 0 < n) (h : x < k * n) where
  u : x % n < n
  u = mod_below x n some

  parts : x / n * n + x % n ≡ x
  parts = div-add-mod' x n

  -- the face at which a cell begins: the cell before lies outside
  pub outer-before : (w : Bool) → cond w false (((x % n == 0) && (x / n == 0)) || ((x % n == n) && (x / n + 1 == k))) ≡ nat_le (k * n) (previous_coordinate w (k * n) x)
  outer-before w =
      elim (cases_eq x 0) [
        | inl e ↦ first w e ∙ ap (nat_le (k * n)) (sym (previous_end w (k * n) x e))
        | inr e ↦ other w e ∙ ap (nat_le (k * n)) (sym (previous_on w (k * n) x e))
      ]
    where
      first : (w : Bool) → x ≡ 0 → cond w false (((x % n == 0) && (x / n == 0)) || ((x % n == n) && (x / n + 1 == k))) ≡ nat_le (k * n) (cond w (k * n - 1) (k * n))
      first true e = sym (inside (k * n) (k * n - 1) (omega (arith, h)))
      first false e =
          let z : x % n ≡ 0 = let p = parts in omega (arith, p, e) in
          let q : x / n ≡ 0 = quotient (x / n) (let p = parts in omega (arith, p, e)) in
          both (x % n) (x / n) n k z q ∙ sym (outside (k * n))
        where
          quotient : (p : ℕ) → p * n ≡ 0 → p ≡ 0
          quotient p e =
              elim (cases_eq p 0) [
                | inl z ↦ z
                | inr o ↦ absurd (let l : 1 * n ≤ p * n = mul-le 1 n p n (omega (arith, o)) (omega arith) in omega (arith, l, e, some))
              ]

      other : (w : Bool) → (x ≡ 0 → ⊥) → cond w false (((x % n == 0) && (x / n == 0)) || ((x % n == n) && (x / n + 1 == k))) ≡ nat_le (k * n) (x - 1)
      other true e = sym (inside (k * n) (x - 1) (omega (arith, h)))
      other false e =
          none (x % n) (x / n) n k u (λ z q. e (sym parts ∙ (λ t. q t * n + z t) ∙ (let r : 0 * n + 0 ≡ 0 = omega arith in r))) ∙ sym (inside (k * n) (x - 1) (omega (arith, h)))

  -- the face at which it ends: the next cell lies outside
  pub outer-after : (w : Bool) → cond w false (((x % n + 1 == 0) && (x / n == 0)) || ((x % n + 1 == n) && (x / n + 1 == k))) ≡ nat_le (k * n) (next_coordinate w (k * n) x)
  outer-after w =
      elim (cases_eq (x + 1) (k * n)) [
        | inl e ↦ last w e ∙ ap (nat_le (k * n)) (sym (next_end w (k * n) x e))
        | inr e ↦ other w e ∙ ap (nat_le (k * n)) (sym (next_on w (k * n) x e))
      ]
    where
      last : (w : Bool) → x + 1 ≡ k * n → cond w false (((x % n + 1 == 0) && (x / n == 0)) || ((x % n + 1 == n) && (x / n + 1 == k))) ≡ nat_le (k * n) (cond w 0 (k * n))
      last true e = sym (inside (k * n) 0 (omega (arith, h)))
      last false e =
          let p = parts in
          let r = u in
          let b : x / n < k = div_below x n k some h in
          let q : x / n + 1 ≡ k = elim (cases_eq (x / n + 1) k) [
            | inl z ↦ z
            | inr o ↦ absurd (let l : (x / n + 2) * n ≤ k * n = mul-le (x / n + 2) n k n (omega (arith, b, o)) (omega arith) in omega (arith, l, e, p, r))
          ] in
          let m : (x / n + 1) * n ≡ k * n = ap (λ t. t * n) q in
          both-after (x % n) (x / n) n k (omega (arith, p, m, e)) q ∙ sym (outside (k * n))

      other : (w : Bool) → (x + 1 ≡ k * n → ⊥) → cond w false (((x % n + 1 == 0) && (x / n == 0)) || ((x % n + 1 == n) && (x / n + 1 == k))) ≡ nat_le (k * n) (x + 1)
      other true e = sym (inside (k * n) (x + 1) (omega (arith, h, e)))
      other false e =
          none-after (x % n) (x / n) n k
          (λ z q. e (let p = parts in let m : (x / n + 1) * n ≡ k * n = ap (λ t. t * n) q in omega (arith, p, z, m)))
          ∙ sym (inside (k * n) (x + 1) (omega (arith, h, e)))

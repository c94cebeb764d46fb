-- Quotients from products.
use Rattle.std.proofs.Common.{◌≡◌, ℕ, ◌+◌, ◌-◌, ◌*◌, ◌/◌, ◌^◌, ◌<◌, ◌≤◌, arith, inl, inr}
use Rattle.std.proofs.Math.Nat.{div-mul-le_self, lt-div-mul-add}
use Rattle.std.proofs.lemmas.Nat.{mul-le, le-div}
use Rattle.std.proofs.lemmas.Bool.{cases_lt}

-- a quotient between two bounds
pub quotient_is : (x d a : ℕ) → 0 < d → a * d ≤ x → x < (a + 1) * d → x / d ≡ a
quotient_is x d a some low high =
    let p : a ≤ x / d = le-div a x d some low in
    let r : x / d * d ≤ x = div-mul-le_self x d in
    elim (cases_lt a (x / d)) [
      | inl more ↦
          let t : (a + 1) * d ≤ x / d * d = mul-le (a + 1) d (x / d) d (omega arith) (omega arith) in
          omega arith
      | inr same ↦ omega arith
    ]

-- one product by a factor that is rounded up
module _ (q s d f w : ℕ) (some : 0 < d) (low : s * w ≤ f * d) (high : f * d < s * w + d) (small : q * d < w) where
  at_least : q * s / d * w ≤ q * f
  at_least =
      let n = q * s / d in
      elim (cases_lt (q * f) (n * w)) [
        | inl less ↦
            let a : (q * f + 1) * d ≤ n * w * d = mul-le (q * f + 1) d (n * w) d (omega arith) (omega arith) in
            let b : n * d * w ≤ q * s * w = mul-le (n * d) w (q * s) w (div-mul-le_self (q * s) d) (omega arith) in
            let c : q * (s * w) ≤ q * (f * d) = mul-le q (s * w) q (f * d) (omega arith) low in
            omega arith
        | inr enough ↦ enough
      ]

  at_most : q * f < (q * s / d + 1) * w
  at_most =
      let n = q * s / d in
      elim (cases_lt (q * f) ((n + 1) * w)) [
        | inl less ↦ less
        | inr more ↦
            let a : (n + 1) * w * d ≤ q * f * d = mul-le ((n + 1) * w) d (q * f) d more (omega arith) in
            let h : q * s < n * d + d = lt-div-mul-add {a = q * s} some in
            let b : (q * s + 1) * w ≤ (n * d + d) * w = mul-le (q * s + 1) w (n * d + d) w (omega arith) (omega arith) in
            let c : q * (f * d) ≤ q * (s * w + d) = mul-le q (f * d) q (s * w + d) (omega arith) (omega arith) in
            omega arith
      ]

  pub one_product : q * f / w ≡ q * s / d
  one_product = quotient_is (q * f) w (q * s / d) (omega arith) at_least at_most

-- the factor that is rounded up
pub rounded_up : (a d : ℕ) → 0 < d → (a ≤ (a + d - 1) / d * d) × ((a + d - 1) / d * d < a + d)
rounded_up a d some =
    let h = lt-div-mul-add {a = a + d - 1} {b = d} some in
    let k = div-mul-le_self (a + d - 1) d in
    (omega arith, omega arith)

-- the high half of twice a product
pub halved : (q f : ℕ) → 2 * q * f / 2 ^ 64 ≡ q * f / 2 ^ 63
halved q f = omega arith

-- Rows of a block's cells: cell x of row r has the number r * n + x.
use Rattle.std.proofs.Common.{◌≡◌, ℕ, ◌+◌, ◌-◌, ◌*◌, ◌<◌, ◌≤◌, subst, arith, mul-le-mul_right, inl, inr}
use Rattle.std.proofs.lemmas.Nat.{mul-le}
use Rattle.std.proofs.lemmas.Bool.{cases_lt}

pub cube_most : (n : ℕ) → n ≤ 16 → n * n * n ≤ 4096
cube_most n h =
    let a : n * n ≤ 16 * 16 = mul-le n n 16 16 h h in
    mul-le (n * n) n 256 16 a h

-- there is room for each row
pub row_room : (n r : ℕ) → r < n * n → r * n + n ≤ n * n * n
row_room n r h = let w : (r + 1) * n ≤ n * n * n = mul-le-mul_right n (let e : r + 1 ≤ n * n = omega arith in e) in omega arith

-- a number below the end of row r is one of that row, or comes before it
pub row_or_before : (n r j : ℕ) (P : ℕ → Type 0) → ((x : ℕ) → x < n → P (r * n + x)) → (j < r * n → P j) → j < (r + 1) * n → P j
row_or_before n r j P row before h =
    elim (cases_lt j (r * n)) [
      | inl l ↦ before l
      | inr g ↦
          let e : r * n + (j - r * n) ≡ j = omega arith in
          subst P e (row (j - r * n) (omega arith))
    ]

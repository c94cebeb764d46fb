-- Rows of a list: element x of row r has the number r * n + x.
use Rattle.std.proofs.Common.{◌≡◌, ℕ, ◌+◌, ◌-◌, ◌*◌, ◌<◌, subst, arith, inl, inr}
use Rattle.std.proofs.lemmas.Bool.{cases_lt}

-- a number below the end of row r is one of that row, or comes before it
pub row_or_before : (n r j : ℕ) (P : ℕ → Type 0) → ((x : ℕ) → x < n → P (r * n + x)) → (j < r * n → P j) → j < (r + 1) * n → P j
row_or_before n r j P row before h =
    elim (cases_lt j (r * n)) [
      | inl l ↦ before l
      | inr g ↦
          let e : r * n + (j - r * n) ≡ j = omega arith in
          subst P e (row (j - r * n) (omega arith))
    ]

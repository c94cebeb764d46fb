-- How a speed bounds the level of its flux.
use Rattle.std.proofs.Common.{◌≡◌, ℕ, zero, suc, ◌*◌, ◌^◌, ◌<◌, ◌≤◌, ◌⊎◌, inl, inr, refl, arith}
use Rattle.std.proofs.lemmas.Bool.{cases_lt}
use Rattle.std.proofs.Math.Nat.{mul-le-mul_right}
use Rattle.std.proofs.lemmas.Nat.{pow_below}

-- a flow that carries at most what there is is one of a low level
pub low_level : (speed den level : ℕ) → 0 < speed → den ≤ 2 ^ 20 → speed * 2 ^ level ≤ den → level ≤ 20
low_level speed den level some most courant = by_order (cases_lt 20 level)
  where
    by_order : (20 < level) ⊎ (level ≤ 20) → level ≤ 20
    by_order (inl above) = absurd (omega (arith, pow_below 20 level above, mul-le-mul_right {m = 1} {n = speed} (2 ^ level) some))
    by_order (inr low) = low

-- Coordinates halved, as the step to a parent halves them.
use Rattle.std.proofs.Common.{◌≡◌, ℕ, zero, suc, ◌-◌, ◌*◌, ◌/◌, ◌%◌, ◌^◌, ◌<◌, arith, sym, ap}
use Rattle.std.proofs.Math.Nat.{pow-succ', div-div-eq-div-mul, mul_left_comm}

-- a coordinate in the range of a level is, halved, in the range of the level above
pub half_below : (trees x l : ℕ) → 0 < l → x < trees * 2 ^ l → x / 2 < trees * 2 ^ (l - 1)
half_below trees x zero some inside = absurd (omega arith)
half_below trees x (suc l) some inside =
    let less : suc l - 1 ≡ l = omega arith in
    rw less (omega (arith, ap (λ p. trees * p) (pow-succ' 2 l), mul_left_comm trees 2 (2 ^ l)))

-- a coordinate's tree is that of its half one level up
pub div-pow_suc : (x l : ℕ) → x / 2 ^ (suc l) ≡ x / 2 / 2 ^ l
div-pow_suc x l = rw (pow-succ' 2 l) (sym (div-div-eq-div-mul x 2 (2 ^ l)))

-- an equal half and an equal rest are an equal number
pub same_from_half : (x y : ℕ) → x / 2 ≡ y / 2 → x % 2 ≡ y % 2 → x ≡ y
same_from_half x y halves rests = omega arith

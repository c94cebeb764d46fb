-- Widths in units of level 6, and the paths filled up to six digits.
use Rattle.std.proofs.Common.{◌≡◌, ℕ, ◌+◌, ◌-◌, ◌*◌, ◌^◌, ◌<◌, ◌≤◌, arith, sym, ap, ◌∙◌, lit≤}
use Rattle.std.proofs.Math.Nat.{pow-le-pow_right, mul-le-mul_right, mul-lt-mul_of_pos_right, one-le-pow, mul_assoc, add-mul}
use Rattle.std.proofs.lemmas.Nat.{pow-add}
use Rattle.block_index.specs.Places.{Cube}
use Rattle.block_index.specs.Order.{path_of, filled_path}
use Rattle.block_index.specs.Touching.{width}
use Rattle.block_index.proofs.Paths.{path_digits_below}

-- a power and the power of the levels that are left make the power of all six
pub pow-rest : (base l : ℕ) → l ≤ 6 → base ^ l * base ^ (6 - l) ≡ base ^ 6
pow-rest base l deep =
    let six : l + (6 - l) ≡ 6 = omega arith in
    sym (pow-add base l (6 - l)) ∙ ap (λ n. base ^ n) six

-- no place is wider than a tree
pub width_most : (l : ℕ) → width l ≤ 64
width_most l =
    let few : 6 - l ≤ 6 = omega arith in
    pow-le-pow_right {n = 2} (lit≤ tt) few

-- a place ends inside 16 trees of 64
pub end_most : (x l : ℕ) → l ≤ 6 → x < 16 * 2 ^ l → x * width l + width l ≤ 1024
end_most x l deep inside =
    let next : x + 1 ≤ 16 * 2 ^ l = omega arith in
    omega (arith, mul-le-mul_right (width l) next, add-mul x 1 (width l), mul_assoc 16 (2 ^ l) (width l), pow-rest 2 l deep)

-- a filled-up path has at most six digits
pub filled_path_below : (c : Cube) → c.level ≤ 6 → filled_path c < 8 ^ 6
unfolding path_of
filled_path_below c deep =
    let some = one-le-pow (6 - c.level) 8 (lit≤ tt) in
    omega (arith, mul-lt-mul_of_pos_right (path_digits_below c.level c.x c.y c.z) some, pow-rest 8 c.level deep)

-- Limits of places as numbers.
use Rattle.std.proofs.Common.{ℕ, ◌^◌, ◌≤◌, ◌<◌, arith}
use Rattle.std.proofs.Math.Pow.{pow_mono}
use Rattle.block_index.specs.Places.{deepest}
use Rattle.criteria.specs.Lemmas.Bounds.{most_across}
use Rattle.block_index.specs.Places.{Cube, IsPlace}

widest : (l : ℕ) → l ≤ deepest → 2 ^ l ≤ 2 ^ deepest
widest l h = let p : 2 ^ l ≤ 2 ^ deepest = pow_mono h in p

pub x_below : (c : Cube) → IsPlace c → c.x < most_across
x_below c p = omega (arith, p.x, widest c.level p.level)

pub y_below : (c : Cube) → IsPlace c → c.y < most_across
y_below c p = omega (arith, p.y, widest c.level p.level)

pub z_below : (c : Cube) → IsPlace c → c.z < most_across
z_below c p = omega (arith, p.z, widest c.level p.level)

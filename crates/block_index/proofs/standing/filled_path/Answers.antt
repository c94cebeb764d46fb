-- What is left of the proof of this function.
use Rattle.std.proofs.Common.{arith, lit≤, ◌≡◌, ◌*◌, ◌≤◌}
use Rattle.std.proofs.Math.Nat.{pow-le-pow_right}
use Rattle.block_index.specs.Order.{filled_path}
use Rattle.block_index.proofs.Widths.{filled_path_below}
use Rattle.block_index.proofs.standing.filled_path.Goals as goal

pub pow-requires : goal.pow-requires
pow-requires c =
    let few : c.from.result ≤ 6 = omega arith in
    omega (arith, pow-le-pow_right {n = 8} (lit≤ tt) few)

pub overflow_mul-result : goal.overflow_mul-result
overflow_mul-result c =
    let full : c.path.result * c.pow.result ≡ filled_path c.args.place = cc in
    rw full (omega (arith, filled_path_below c.args.place c.level.ensures.limits.level))

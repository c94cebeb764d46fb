-- The coordinates of a leaf are within their bounds.
use Rattle.std.proofs.Common.{arith}
use Rattle.criteria.proofs.PlaceLimits.{x_below, y_below, z_below}
use Rattle.criteria.proofs.box_test.meets_box.Goals as goal

pub meets_along-requires-clause-x : goal.meets_along-requires-clause-x
meets_along-requires-clause-x c = omega (arith, x_below c.args.place c.x.ensures.limits)

pub meets_along-requires-then-meets_along-clause-x : goal.meets_along-requires-then-meets_along-clause-x
meets_along-requires-then-meets_along-clause-x c = omega (arith, y_below c.args.place c.y.ensures.limits)

pub meets_along-requires-then-meets_along-2-clause-x : goal.meets_along-requires-then-meets_along-2-clause-x
meets_along-requires-then-meets_along-2-clause-x c = omega (arith, z_below c.args.place c.z.ensures.limits)

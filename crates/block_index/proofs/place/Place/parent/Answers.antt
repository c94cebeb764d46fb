-- What is left of the proof of this function.
use Rattle.std.proofs.Common.{arith, ◌<◌}
use Rattle.block_index.proofs.Halves.{half_below}
use Rattle.block_index.proofs.place.Place.parent.Goals as goal

pub invariant_of-result : goal.invariant_of-result
invariant_of-result c =
    let p = c.self.inside in
    let some : 0 < p.level = omega arith in
    record {
      level = omega arith;
      x = half_below 16 p.x p.level some c.self.invariant.x;
      y = half_below 16 p.y p.level some c.self.invariant.y;
      z = half_below 16 p.z p.level some c.self.invariant.z;
    }

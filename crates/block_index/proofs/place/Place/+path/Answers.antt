-- What is left of the proof of this function.
use Rattle.std.proofs.Common.{arith, sym, lit≤, ◌≡◌, ◌≤◌, ◌<◌}
use Rattle.std.proofs.Math.Nat.{pow-le-pow_right}
use Rattle.block_index.specs.Order.{path_of}
use Rattle.block_index.proofs.Paths.{path_digits_below, path_digits-step, root_path}
use Rattle.block_index.proofs.place.Place.+path.Goals as goal

pub overflow_mul-result : goal.overflow_mul-result
overflow_mul-result t c =
    let deep : c.in-Some.parent.level ≤ 6 = omega (arith, c.in-Some.ensures) in
    omega (arith, pow-le-pow_right {n = 8} (lit≤ tt) deep)

pub overflow_add-result : goal.overflow_add-result
overflow_add-result t c =
    let deep : c.in-Some.parent.level ≤ 6 = omega (arith, c.in-Some.ensures) in
    omega (arith, pow-le-pow_right {n = 8} (lit≤ tt) deep)

pub returns-in-None-clause-digits : goal.returns-in-None-clause-digits
unfolding path_of
returns-in-None-clause-digits t c =
    let root : c.args.self.level ≡ 0 = grind arith in
    sym (root_path c.args.self.level c.args.self.x c.args.self.y c.args.self.z root)

pub returns-in-Some-clause-digits : goal.returns-in-Some-clause-digits
unfolding path_of
returns-in-Some-clause-digits t c =
    let some : 0 < c.args.self.level = grind arith in
    let step = path_digits-step c.args.self.level c.args.self.x c.args.self.y c.args.self.z some in
    grind arith

pub returns-in-Some-clause-below : goal.returns-in-Some-clause-below
unfolding path_of
returns-in-Some-clause-below t c =
    let self = c.args.self in
    omega (arith, returns-in-Some-clause-digits t c, path_digits_below self.level self.x self.y self.z)

-- What is left of the proof of this function.
use Rattle.std.proofs.Common.{arith, ap, ◌-◌, ◌*◌, ◌^◌, ◌<◌}
use Rattle.std.proofs.lemmas.Nat.{one_shl}
use Rattle.block_index.proofs.Widths.{end_most}
use Rattle.block_index.proofs.touching.stretch_of.Goals as goal

pub overflow_mul-result : goal.overflow_mul-result
overflow_mul-result c =
    let few : 6 - c.args.level < 32 = omega arith in
    let same = ap (λ n. n * 2 ^ (6 - c.args.level)) c.from.ensures in
    rw (one_shl (6 - c.args.level) 32 few) (omega (arith, same, end_most c.args.coordinate c.args.level c.requires.level c.requires.coordinate))

pub returns-clause-end : goal.returns-clause-end
returns-clause-end c =
    let few : 6 - c.args.level < 32 = omega arith in
    let same = ap (λ n. n * 2 ^ (6 - c.args.level)) c.from.ensures in
    rw (one_shl (6 - c.args.level) 32 few) (omega (arith, same, end_most c.args.coordinate c.args.level c.requires.level c.requires.coordinate))

-- The product of small numbers.
use Rattle.std.proofs.Common.{◌*◌, ◌≤◌, arith}
use Rattle.std.proofs.Math.Nat.{mul-le-mul}
use Rattle.checkpoint.proofs.rest.amounts_size.Goals as goal

pub overflow_mul-result-5 : goal.overflow_mul-result-5
overflow_mul-result-5 c =
    let n = c.args.n in
    let square : n * n ≤ 16 * 16 = mul-le-mul c.requires.most c.requires.most in
    let cube : n * n * n ≤ 16 * 16 * 16 = mul-le-mul square c.requires.most in
    let block : 8 * (n * n * n) ≤ 8 * 4096 = omega (arith, cube) in
    let each : c.args.fields * (8 * (n * n * n)) ≤ 4 * (8 * 4096) = mul-le-mul c.requires.few_fields block in
    let all : c.args.count * (c.args.fields * (8 * (n * n * n))) ≤ 8192 * (4 * (8 * 4096)) = mul-le-mul c.requires.few each in
    omega (arith, all)

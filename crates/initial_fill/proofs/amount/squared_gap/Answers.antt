use Rattle.std.proofs.Common.{◌≤◌, arith}
use Rattle.std.proofs.lemmas.Nat.{mul-le}
use Rattle.initial_fill.proofs.amount.squared_gap.Goals as goal

pub returns-clause-few : goal.returns-clause-few
returns-clause-few c =
    let gap = c.abs_diff-gap.result in
    let small : gap ≤ 4194304 = omega arith in
    let w = mul-le gap gap 4194304 4194304 small small in
    omega arith

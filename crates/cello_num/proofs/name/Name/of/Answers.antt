-- What is left of the proof of this function.
use Rattle.std.proofs.Common.{◌≤◌, length, arith}
use Rattle.cello_num.proofs.Padding.{padded_copy}
use Rattle.cello_num.proofs.name.Name.of.Goals as goal

pub invariant_of-result : goal.invariant_of-result
invariant_of-result c =
    let short : length c.args.bytes.now ≤ 32 = omega arith in
    let facts = padded_copy c.args.bytes.now 32 short in
    rw c.copy_from_slice.ensures.after (short, facts.0, facts.1)

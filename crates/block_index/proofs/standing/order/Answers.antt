-- What is left of the proof of this function.
use Rattle.std.proofs.Common.{rules, ◌≡◌, ◌∙◌, sym}
use Rattle.block_index.specs.Order.{compared_in_steps}
use Rattle.block_index.proofs.Ranks.{nat_cmp-rank}
use Rattle.block_index.proofs.standing.order.Goals as goal

pub returns-clause-ranks : goal.returns-clause-ranks
returns-clause-ranks c =
    let steps : c.cmp.result ≡ compared_in_steps c.args.a c.args.b = search rules in
    steps ∙ sym (nat_cmp-rank c.args.a c.args.b c.of.ensures.limits c.of-2.ensures.limits)

use Rattle.std.proofs.Common.{◌/◌, ◌==◌, cond, ap, ◌∙◌}
use Rattle.ghost_pieces.proofs.counts.counts_along.Goals as goal

pub returns-clause-counts : goal.returns-clause-counts
returns-clause-counts c =
    let a = c.args in
    record {
      before_is = c.depth_where.ensures.count ∙ ap (λ v. cond (v / a.span == a.from) a.depth 0) c.reached_before.ensures;
      own_is = c.own_count.ensures.count a.depth;
      after_is = c.depth_where-2.ensures.count ∙ ap (λ v. cond (v / a.span == a.from) a.depth 0) c.reached_after.ensures;
    }

-- One amount more.
use Rattle.std.proofs.Common.{sym, ap, ◌∙◌, max, get_or}
use Rattle.criteria.proofs.GreatestAmounts.{greatest_below-next}
use Rattle.criteria.proofs.mass.greatest_amount.Goals as goal

pub loop-q-preserved : goal.loop-q-preserved
loop-q-preserved c =
    c.max-greatest.ensures
    ∙ ap (λ m. max m (get_or c.args.amounts.now c.loop-q.q-index 0)) c.loop-q.invariant
    ∙ sym (greatest_below-next c.loop-q.q-index (λ x. get_or c.args.amounts.now x 0))

-- What is left of the proof of this function.
use Rattle.std.proofs.Common.{arith, below_more, sym, true≢false}
use Rattle.std.proofs.lemmas.Option.{slice_get_within}
use Rattle.leaf_set.proofs.InOrder.{few_in_order}
use Rattle.leaf_set.proofs.faults.first_unordered.Goals as goal

pub overflow_cast-result : goal.overflow_cast-result
overflow_cast-result c =
    let few = few_in_order c.loop-at.at c.args.places.now (omega arith) c.loop-at.invariant.ordered c.loop-at.invariant.limits in
    omega arith

pub loop-at-preserved : goal.loop-at-preserved
loop-at-preserved c = record {
  ordered = below_more _ _ c.loop-at.invariant.ordered (λ b. true≢false (sym (c.if-breaks_order.ensures.breaks.1 b)));
  limits = below_more _ _ c.loop-at.invariant.limits c.breaks_order.ensures.limits;
}

pub returns-clause-none : goal.returns-clause-none
returns-clause-none c n at b =
    let w = slice_get_within c.args.places.now at b.place b.is_place in
    c.loop-at.invariant.ordered at (omega arith) b

pub returns-clause-few : goal.returns-clause-few
returns-clause-few c n =
    let few = few_in_order c.loop-at.at c.args.places.now (omega arith) c.loop-at.invariant.ordered c.loop-at.invariant.limits in
    omega arith

pub returns-clause-limits : goal.returns-clause-limits
returns-clause-limits c n i p s =
    let w = slice_get_within c.args.places.now i p s in
    c.loop-at.invariant.limits i (omega arith) p s

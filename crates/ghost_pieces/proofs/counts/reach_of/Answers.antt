use Rattle.std.proofs.Common.{◌<◌, sym, subst}
use Rattle.ghost_pieces.proofs.Reached.{place_below}
use Rattle.ghost_pieces.proofs.counts.reach_of.Goals as goal

pub axis_counts-requires-clause-from : goal.axis_counts-requires-clause-from
axis_counts-requires-clause-from c = subst (λ u. u < 1024) (sym c.x-2.ensures.x) (place_below c.args.sender c.x-2.ensures.limits).0

pub axis_counts-requires-2-clause-from : goal.axis_counts-requires-2-clause-from
axis_counts-requires-2-clause-from c = subst (λ u. u < 1024) (sym c.y-2.ensures.y) (place_below c.args.sender c.y-2.ensures.limits).1

pub axis_counts-requires-3-clause-from : goal.axis_counts-requires-3-clause-from
axis_counts-requires-3-clause-from c = subst (λ u. u < 1024) (sym c.z-2.ensures.z) (place_below c.args.sender c.z-2.ensures.limits).2

use Rattle.std.proofs.Common.{◌<◌, sym, subst}
use Rattle.ghost_pieces.proofs.Reached.{place_below}
use Rattle.ghost_pieces.proofs.parts.parts_of.Goals as goal

pub axis_part-requires-clause-from : goal.axis_part-requires-clause-from
axis_part-requires-clause-from c = subst (λ u. u < 1024) (sym c.x-3.ensures.x) (place_below c.args.sender c.x-3.ensures.limits).0

pub axis_part-requires-2-clause-from : goal.axis_part-requires-2-clause-from
axis_part-requires-2-clause-from c = subst (λ u. u < 1024) (sym c.y-3.ensures.y) (place_below c.args.sender c.y-3.ensures.limits).1

pub axis_part-requires-3-clause-from : goal.axis_part-requires-3-clause-from
axis_part-requires-3-clause-from c = subst (λ u. u < 1024) (sym c.z-3.ensures.z) (place_below c.args.sender c.z-3.ensures.limits).2

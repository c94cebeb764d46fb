use Rattle.std.proofs.Common.{arith}
use Rattle.ghost_pieces.proofs.Reached.{own-start}
use Rattle.ghost_pieces.proofs.axis_parts.own_part.Goals as goal

pub returns-clause-count : goal.returns-clause-count
returns-clause-count c = c.own_count.ensures.count c.args.depth

pub returns-clause-start : goal.returns-clause-start
returns-clause-start c =
    own-start c.args.n c.args.depth c.args.side.places c.args.side.at c.args.span c.args.from c.saturating_sub-skip.result c.own_count.result c.saturating_sub.result c.args.side.wraps c.requires.at c.requires.deep
    (omega arith) (let e = c.own_count.ensures.count c.args.depth in omega arith) (omega arith)

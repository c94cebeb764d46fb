use Rattle.std.proofs.Common.{rules, ◌*◌, ◌+◌, ◌-◌, ◌^◌, arith, pow_pos}
use Rattle.ghost_pieces.specs.Boxes.{span}
use Rattle.ghost_pieces.proofs.PieceParts.{IsPart-Follows, IsPart-FitsIn}
use Rattle.ghost_pieces.proofs.parts.axis_part.Goals as goal

pub returns-clause-part : goal.returns-clause-part
returns-clause-part c = search rules

pub returns-clause-follows : goal.returns-clause-follows
returns-clause-follows c =
    let p = c.part_along.result in
    let a = c.args in
    IsPart-Follows a.n a.depth (a.trees * 2 ^ a.level) a.at (2 ^ (a.level + 1 - a.from_level)) a.from a.wraps a.step p.first p.count p.start p.runs c.requires.at c.requires.even (omega (arith, c.requires.least)) c.requires.deep (pow_pos (a.level + 1 - a.from_level)) c.requires.step (returns-clause-part c)

pub returns-clause-fits : goal.returns-clause-fits
returns-clause-fits c =
    let p = c.part_along.result in
    let a = c.args in
    IsPart-FitsIn a.n a.depth (a.trees * 2 ^ a.level) a.at (span a.n a.level a.from_level) a.from a.wraps a.step p.first p.count p.start p.runs c.requires.step (omega (arith, c.requires.deep)) c.requires.most (omega (arith, c.span_of-span.ensures.span, c.span_of-span.ensures.most)) (returns-clause-part c) (returns-clause-follows c)

use Rattle.ghost_pieces.proofs.Reached.{reached-after}
use Rattle.ghost_pieces.proofs.axis_parts.reached_after.Goals as goal

pub returns-then-side : goal.returns-then-side
returns-then-side c = reached-after c.args.n c.args.depth c.args.side.places c.args.side.at c.requires.at c.requires.deep c.requires.some c.args.side.wraps c.if-side.true

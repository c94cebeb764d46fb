use Rattle.ghost_pieces.proofs.Reached.{reached-before}
use Rattle.ghost_pieces.proofs.axis_parts.reached_before.Goals as goal

pub returns-then-side-gt0 : goal.returns-then-side-gt0
returns-then-side-gt0 c = reached-before c.args.n c.args.depth c.args.side.places c.args.side.at c.requires.at c.requires.deep c.requires.some c.args.side.wraps c.if-side-gt0.true

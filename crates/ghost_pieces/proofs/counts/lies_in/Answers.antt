use Rattle.ghost_pieces.proofs.SizedPieces.{lies-below}
use Rattle.ghost_pieces.proofs.counts.lies_in.Goals as goal

pub returns-then-low-v : goal.returns-then-low-v
returns-then-low-v c = record { same = lies-below c.args.v c.args.span c.args.block c.requires.some c.if-low-v.true }

use Rattle.std.proofs.Common.{arith}
use Rattle.ghost_pieces.proofs.Reached.{axis_places}
use Rattle.ghost_pieces.proofs.parts.side_of.Goals as goal

pub returns-clause-places : goal.returns-clause-places
returns-clause-places c = let p = axis_places c.args.trees c.args.level c.requires.trees c.requires.level in omega arith

-- The cell can sum up what it owes, and can be corrected by the piece.
use Rattle.flux_register.proofs.Handling.{corrects_there, reduces_there}
use Rattle.flux_register.proofs.flux_fix.FluxFixPhase.handle.Goals as goal

pub send-requires-clause-pieces : goal.send-requires-clause-pieces
send-requires-clause-pieces c = reduces_there c.args.self.now c.args._at c.args.cell.now c.args.msg.now c.requires.stands

pub correct-requires : goal.correct-requires
correct-requires c = record { fits = corrects_there c.args.self.now c.args._at c.args.cell.now c.args.msg.now c.requires.stands c.in-Piece.piece c.in-Piece.is }

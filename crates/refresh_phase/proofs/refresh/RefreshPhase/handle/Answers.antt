-- The cell can fill what it owes, and there is room for the piece.
use Rattle.std.proofs.Common.{subst, sym}
use Rattle.refresh_phase.specs.Cells.{Setting}
use Rattle.refresh_phase.specs.Lemmas.Sending.{CanSend}
use Rattle.refresh_phase.proofs.Handling.{sends_there, receiver_there, fits_there, room_there}
use Rattle.refresh_phase.proofs.refresh.RefreshPhase.handle.Goals as goal

pub send-requires-clause-pieces : goal.send-requires-clause-pieces
send-requires-clause-pieces c = subst (λ (s : Setting). CanSend s.grid c.args.cell.now) (sym c.self.view_is) (sends_there c.args.self.now c.args._at c.args.cell.now c.args.msg.now c.requires.stands)

pub file-requires-clause-receiver : goal.file-requires-clause-receiver
file-requires-clause-receiver c = receiver_there c.args.self.now c.args._at c.args.cell.now c.args.msg.now c.requires.stands c.in-Piece.piece c.in-Piece.is

pub file-requires-clause-fits : goal.file-requires-clause-fits
file-requires-clause-fits c = fits_there c.args.self.now c.args._at c.args.cell.now c.args.msg.now c.requires.stands c.in-Piece.piece c.in-Piece.is

pub file-requires-clause-room : goal.file-requires-clause-room
file-requires-clause-room c = room_there c.args.self.now c.args._at c.args.cell.now c.args.msg.now c.requires.stands c.in-Piece.piece c.in-Piece.is

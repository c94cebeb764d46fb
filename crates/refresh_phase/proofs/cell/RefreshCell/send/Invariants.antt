-- What was sent and what is left are all that the cell owed.
use Rattle.std.proofs.Common.{◌≡◌, ◌≤◌, ◌++◌, length}
use Rattle.std.specs.Prelude.{Contains}
use Rattle.std.specs.Vec.Iter.{into_iter_items, into_iter_len}
use Rattle.refresh_phase.specs.Cells.{own_cells}
use Rattle.refresh_phase.specs.React.{sent_pieces}
use Rattle.refresh_phase.specs.Lemmas.Sending.{CanFill}
use Rattle.ghost_pieces.specs.Pieces.{PieceState}
use Rattle.refresh_phase.proofs.cell.RefreshCell.send.Given as goal

abbrev pub invariant-loop-piece : goal.invariant-loop-piece
invariant-loop-piece l = record {
  sent : l.out.items ++ sent_pieces l.domain (own_cells l.self-inside.block) (into_iter_items l.piece-iterator) ≡ l.fn.out.items ++ sent_pieces l.domain (own_cells l.fn.self.block) l.fn.self.owed;
  room : length (into_iter_items l.piece-iterator) ≤ l.out.spare;
  each : (q : PieceState) → Contains (into_iter_items l.piece-iterator) q → CanFill l.domain l.self-inside.block q;
  long : into_iter_len l.piece-iterator ≡ length (into_iter_items l.piece-iterator);
}

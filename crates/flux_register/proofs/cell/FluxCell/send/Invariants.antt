-- What was sent and what is left are all that the cell owed.
use Rattle.std.proofs.Common.{◌≡◌, ◌≤◌, ◌++◌, length}
use Rattle.std.specs.Vec.Iter.{into_iter_items, into_iter_len}
use Rattle.flux_register.specs.React.{sent_pieces}
use Rattle.flux_register.specs.Lemmas.Sending.{CanReduce}
use Rattle.flux_register.proofs.cell.FluxCell.send.Given as goal

abbrev pub invariant-loop-piece : goal.invariant-loop-piece
invariant-loop-piece l = record {
  sent : l.out.items ++ sent_pieces l.self-inside.faces (into_iter_items l.piece-iterator) ≡ l.fn.out.items ++ sent_pieces l.fn.self.faces l.fn.self.owed;
  room : length (into_iter_items l.piece-iterator) ≤ l.out.spare;
  pieces : CanReduce l.self-inside.faces (into_iter_items l.piece-iterator);
  long : into_iter_len l.piece-iterator ≡ length (into_iter_items l.piece-iterator);
}

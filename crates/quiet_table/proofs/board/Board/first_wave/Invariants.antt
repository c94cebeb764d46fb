use Rattle.std.proofs.Common.{◌≡◌, length, []}
use Rattle.quiet_table.specs.Words.{adds}
use Rattle.quiet_table.proofs.board.Board.first_wave.Given as goal

abbrev pub invariant-loop-k : goal.invariant-loop-k
invariant-loop-k g l = record {
  own : l.place.table_id ≡ l.fn.place.table_id;
  id : l.place.id ≡ l.fn.place.id;
  told : l.place.me ≡ (record l.fn.place.me.0 { first = l.place.me.0.first; second = [] }, l.fn.place.me.1);
  long : length l.place.me.0.first ≡ l.k;
  sum : l.handled ≡ adds l.place.me.0.first;
}

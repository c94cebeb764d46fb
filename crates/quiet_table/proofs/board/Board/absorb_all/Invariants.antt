use Rattle.std.proofs.Common.{◌≡◌, ◌≢◌, ◌+◌, ◌++◌, ℕ, map, Some, length}
use Rattle.std.specs.Prelude.{slice_get}
use Rattle.quiet_table.specs.BoardRule.{stops, handles}
use Rattle.quiet_table.proofs.board.Board.absorb_all.Given as goal

abbrev pub invariant-loop-other : goal.invariant-loop-other
invariant-loop-other g l = record {
  items : l.fn.others.items ≡ l.yielded ++ l.other-iterator.rest.items;
  own : l.first.place.table_id ≡ l.fn.first.place.table_id;
  zeroth : l.first.number ≡ 0;
  hands : l.first.place.me.0.hands ≡ l.fn.first.place.me.0.hands;
  splits : l.first.place.me.0.splits ≡ l.fn.first.place.me.0.splits;
  joins : l.first.place.me.0.joins ≡ length l.yielded;
  stopped : l.first.place.me.0.stops ≡ l.fn.first.place.me.0.stops + stops (map (λ s. s.place.me.0) l.yielded);
  counted : l.first.place.me.0.handled ≡ l.fn.first.place.me.0.handled + handles (map (λ s. s.place.me.0) l.yielded);
  saw : l.fn.first.place.me.0.seen ≢ 0 → l.first.place.me.0.seen ≡ l.fn.first.place.me.0.seen;
  seen : (i : ℕ) (s : _) → slice_get l.yielded i ≡ Some s → s.place.me.0.seen ≢ 0 → l.first.place.me.0.seen ≢ 0;
}

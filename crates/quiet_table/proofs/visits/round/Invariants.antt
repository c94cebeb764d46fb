use Rattle.std.proofs.Common.{◌≡◌}
use Rattle.quiet_table.proofs.visits.round.Given as goal

abbrev pub invariant-loop-shard : goal.invariant-loop-shard
invariant-loop-shard l = record {
  own : l.seat.place.table_id ≡ l.fn.seat.place.table_id;
  rest : l.seat.place.me.0 ≡ record l.fn.seat.place.me.0 { handled = l.seat.place.me.0.handled; finds = l.seat.place.me.0.finds; gave = l.seat.place.me.0.gave };
}

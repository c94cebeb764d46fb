use Rattle.std.proofs.Common.{◌≡◌}
use Rattle.quiet_table.proofs.visits.work.Given as goal

abbrev pub invariant-loop : goal.invariant-loop
invariant-loop l = record {
  own : l.seat.place.table_id ≡ l.fn.seat.place.table_id;
  rest : l.seat.place.me.0 ≡ record l.fn.seat.place.me.0 { handled = l.seat.place.me.0.handled; finds = l.seat.place.me.0.finds; gave = l.seat.place.me.0.gave };
}

use Rattle.std.proofs.Common.{◌≡◌}
use Rattle.post_office.specs.Seats.{StaysSeat}
use Rattle.post_office.proofs.post.Post.work.Given as goal

abbrev pub invariant-loop : goal.invariant-loop
invariant-loop g l = record {
  own : (l.seat.place.table_id ≡ l.fn.seat.place.table_id) × (l.seat.place.id ≡ l.fn.seat.place.id);
  stays : StaysSeat l.fn.seat.place.me.0 l.seat.place.me.0;
}

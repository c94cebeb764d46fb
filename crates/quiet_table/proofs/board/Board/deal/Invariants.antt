use Rattle.std.proofs.Common.{◌≡◌, ◌≢◌, ◌≤◌, ℕ, Some, vec_len}
use Rattle.std.specs.Prelude.{slice_get, vec_capacity}
use Rattle.quiet_table.specs.Views.{dealt_view, first_view}
use Rattle.quiet_table.proofs.board.Board.deal.Given as goal

abbrev pub invariant-loop-number : goal.invariant-loop-number
invariant-loop-number g l = record {
  count : vec_len l.seats ≡ l.number;
  room : l.fn.workers ≤ vec_capacity l.seats;
  first : (s : _) → slice_get l.seats.items 0 ≡ Some s → s.place.me.0 ≡ dealt_view l.number 0;
  each : (i : ℕ) (s : _) → slice_get l.seats.items i ≡ Some s → (s.number ≡ i) × (s.place.table_id ≡ l.self.table.shared.table_id) × (i ≢ 0 → s.place.me.0 ≡ record first_view { number = i });
  some : 1 ≤ l.number;
}

use Rattle.std.proofs.Common.{◌≡◌, ◌≢◌, ◌<◌, ◌≤◌, ◌+◌, ◌++◌, ◌∷◌, [], ℕ, List, Some, ◌⊎◌}
use Rattle.std.specs.Prelude.{All, IsPermutation, slice_get, slice_index_or, length}
use Rattle.quiet_table.specs.Contents.{pool}
use Rattle.quiet_table.specs.Views.{hand_of}
use Rattle.post_office.specs.Posts.{stood}
use Rattle.post_office.specs.Finds.{FoundHeld, finds_of}
use Rattle.post_office.proofs.post.Post.send.Given as goal

abbrev pub invariant-loop-t : goal.invariant-loop-t
invariant-loop-t g l = record {
  own : (l.seat.place.table_id ≡ l.fn.seat.place.table_id) × (l.seat.place.id ≡ l.fn.seat.place.id);
  kept : (l.served.phase ≡ l.fn.served.phase) × (l.served.first ≡ l.fn.served.first) × (l.served.owners ≡ l.fn.served.owners) × (l.served.shard ≡ l.fn.served.shard) × (l.served.cells ≡ l.fn.served.cells) × (l.served.fresh ≡ l.fn.served.fresh);
  waiting : slice_get l.served.mail.items l.s ≡ slice_get l.fn.served.mail.items l.s;
  gone : (u : ℕ) (es : _) → u < l.t → u ≢ l.s → slice_get l.served.mail.items u ≡ Some es → (es ≡ []) ⊎ FoundHeld (l.self.board.shards + u) l.fn.seat.place.me.0.finds l.seat.place.me.0.finds;
  held : (es : List _) × (l.seat.place.me.0.hands ≡ hand_of l.s (record { rest = record { owners = l.served.owners.value.items; shard = l.served.shard; waits = length (slice_index_or l.served.mail.items l.served.shard []); stood = Some (stood g.P.Phase.problem l.served.phase.value l.served.first.value.items l.served.cells.items) }; parcels = es }) ∷ []) × IsPermutation es (pool l.served.mail.items ++ l.served.fresh.items);
  gave : (boxes : List _) × (l.seat.place.me.0.gave ≡ boxes ++ l.fn.seat.place.me.0.gave) × All (λ h. h.slot ≢ l.self.board.shards + l.s) boxes;
  finds : (k : ℕ) → finds_of k l.fn.seat.place.me.0.finds ≤ finds_of k l.seat.place.me.0.finds;
  rest : l.seat.place.me.0 ≡ record l.fn.seat.place.me.0 { hands = l.seat.place.me.0.hands; finds = l.seat.place.me.0.finds; gave = l.seat.place.me.0.gave };
}

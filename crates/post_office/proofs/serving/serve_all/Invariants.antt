use Rattle.std.proofs.Common.{◌≡◌, ◌<◌, ◌++◌, ◌-◌, [], length}
use Rattle.std.specs.Prelude.{All}
use Rattle.quiet_table.specs.Contents.{pool}
use Rattle.post_office.specs.Shares.{Sorted}
use Rattle.post_office.specs.Posts.{Turns, stood}
use Rattle.post_office.proofs.serving.serve_all.Given as goal

abbrev pub invariant-loop-alloc : goal.invariant-loop-alloc
invariant-loop-alloc g l = record {
  none_sent : l.out.items ≡ [];
  turns : Turns g.P.Phase.react l.owners l.shard (stood g.P.Phase.problem l.phase l.first.value.items l.fn.cells.items) (pool l.fn.mail.items ++ l.fn.fresh.items) l.sent l.handled (stood g.P.Phase.problem l.phase l.first.value.items l.cells.items) (pool l.mail.items ++ l.fresh.items);
  addressed : All (λ e. e.to < length l.owners) l.fresh.items;
  sorted : Sorted l.owners l.mail.items;
  count : length l.mail.items ≡ length l.fn.mail.items;
}

abbrev pub decreases-loop-alloc : goal.decreases-loop-alloc
decreases-loop-alloc g l = g.P.Phase.start_weight (g.P.Phase.problem l.phase l.first.value.items) - l.handled

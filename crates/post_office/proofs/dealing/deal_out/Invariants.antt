use Rattle.std.proofs.Common.{◌≡◌, [], ◌++◌, length, Some, map}
use Rattle.std.specs.Prelude.{slice_index_or}
use Rattle.quiet_table.specs.Contents.{pool}
use Rattle.post_office.specs.Posts.{stood}
use Rattle.post_office.specs.Lemmas.Dealt.{Dealt}
use Rattle.post_office.proofs.dealing.deal_out.Given as goal

abbrev pub invariant-loop-cell : goal.invariant-loop-cell
invariant-loop-cell g l = record {
  items : l.fn.cells.items ≡ l.yielded ++ l.cell-iterator.rest.items;
  at : l.at ≡ length l.yielded;
  dealt : Dealt l.phase (g.P.Phase.problem l.phase l.fn.cells.items) l.owners g.P.Phase.start (length l.fn.posts.items) l.yielded (map (λ c. record { owners = c.owners.value.items; shard = c.shard; waits = length (slice_index_or c.mail.items c.shard []); stood = Some (stood g.P.Phase.problem c.phase.value c.first.value.items c.cells.items) }) l.posts.items) (map (λ c. pool c.mail.items ++ c.fresh.items) l.posts.items);
}

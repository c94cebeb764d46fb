use Rattle.std.proofs.Common.{[], ◌++◌, length, Some, map}
use Rattle.std.specs.Prelude.{slice_index_or}
use Rattle.quiet_table.specs.Contents.{pool}
use Rattle.post_office.specs.Posts.{stood}
use Rattle.post_office.specs.Lemmas.Dealt.{Dealt}
use Rattle.post_office.proofs.opening.empty_cells.Given as goal

abbrev pub invariant-loop-shard : goal.invariant-loop-shard
invariant-loop-shard g l = Dealt l.phase (g.P.Phase.problem l.phase l.first.items) l.owners.items g.P.Phase.start l.shard [] (map (λ c. record { owners = c.owners.value.items; shard = c.shard; waits = length (slice_index_or c.mail.items c.shard []); stood = Some (stood g.P.Phase.problem c.phase.value c.first.value.items c.cells.items) }) l.cells.items) (map (λ c. pool c.mail.items ++ c.fresh.items) l.cells.items)

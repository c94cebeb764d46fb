use Rattle.std.proofs.Common.{◌≡◌, ◌≤◌, List, length, map, vec_len}
use Rattle.std.specs.Prelude.{vec_capacity}
use Rattle.post_office.specs.Lemmas.Gathered.{Rows, Left}
use Rattle.post_office.proofs.gathering.gather.Given as goal

abbrev pub invariant-loop-taken : goal.invariant-loop-taken
invariant-loop-taken g l = record {
  shards : length l.posts.items ≡ length l.fn.posts.items;
  count : vec_len l.cells ≡ l.taken;
  room : length l.owners ≤ vec_capacity l.cells;
  left : (cells : List g.row.P-Cell.Denot) → length l.owners ≡ length cells → Rows l.owners cells (map (λ p. p.cells.items) l.fn.posts.items) → Left l.owners cells (map (λ p. p.cells.items) l.posts.items) l.taken l.cells.items;
}

use Rattle.std.proofs.Common.{◌≡◌, ◌+◌, length}
use Rattle.quiet_table.specs.Contents.{pool}
use Rattle.post_office.proofs.pile.Pile.len.Given as goal

abbrev pub invariant-loop-page : goal.invariant-loop-page
invariant-loop-page g l = record {
  can : (goal.iterator-loop-page g).can_next l.page-iterator;
  finite : (goal.iterator-loop-page g).is_finite l.page-iterator;
  left : l.total + length (pool l.page-iterator) ≡ length l.self;
}

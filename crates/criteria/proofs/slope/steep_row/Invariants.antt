-- No cell that has been looked at is steep; the samples before the next cell and in it.
use Rattle.std.proofs.Common.{◌≡◌, ◌+◌, false, pos}
use Rattle.block_fields.specs.Blocks.{seen_at}
use Rattle.criteria.specs.Cells.{some_below, some_steep}
use Rattle.criteria.specs.Samples.{before}
use Rattle.criteria.proofs.slope.steep_row.Given as goal

abbrev pub invariant-loop-x : goal.invariant-loop-x
invariant-loop-x l = record {
  left : l.left ≡ seen_at l.block l.field (before l.x) (before (l.y + 1)) (before (l.z + 1));
  here : l.here ≡ seen_at l.block l.field (pos l.x) (before (l.y + 1)) (before (l.z + 1));
  none : some_below l.x (λ x. some_steep (seen_at l.block l.field) l.hundredths x l.y l.z) ≡ false;
}

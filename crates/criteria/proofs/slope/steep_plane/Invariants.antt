-- No row that has been looked at has a steep cell.
use Rattle.std.proofs.Common.{◌≡◌, false}
use Rattle.block_fields.specs.Blocks.{seen_at}
use Rattle.criteria.specs.Cells.{some_below}
use Rattle.criteria.specs.Lemmas.CellWishes.{steep_row}
use Rattle.criteria.proofs.slope.steep_plane.Given as goal

abbrev pub invariant-loop-y : goal.invariant-loop-y
invariant-loop-y l = some_below l.y (λ y. steep_row l.block.edge (seen_at l.block l.field) l.hundredths y l.z) ≡ false

-- The wish of the rows that have been looked at, and the columns before the next row and at it.
use Rattle.std.proofs.Common.{◌≡◌, ◌+◌}
use Rattle.block_fields.specs.Blocks.{seen_at}
use Rattle.params_check.specs.declared.criterion.Test.TheVariants.{Contrast}
use Rattle.criteria.specs.Lemmas.CellWishes.{row_wish, wish_below}
use Rattle.criteria.specs.Lemmas.Rows.{HoldsColumn}
use Rattle.criteria.proofs.contrast.contrast_plane.Given as goal

abbrev pub invariant-loop-y : goal.invariant-loop-y
invariant-loop-y l = record {
  so_far : l.wish ≡ wish_below l.y (λ y. row_wish l.block.edge (seen_at l.block) (Contrast l.field l.refine l.coarsen) y l.z);
  low : HoldsColumn l.block l.field l.y l.z l.low.greatest l.low.least;
  here : HoldsColumn l.block l.field (l.y + 1) l.z l.here.greatest l.here.least;
}

-- The wish of the planes that have been looked at.
use Rattle.std.proofs.Common.{◌≡◌}
use Rattle.block_fields.specs.Blocks.{seen_at}
use Rattle.params_check.specs.declared.criterion.Test.TheVariants.{Contrast}
use Rattle.criteria.specs.Lemmas.CellWishes.{plane_wish, wish_below}
use Rattle.criteria.proofs.contrast.contrast_wish.Given as goal

abbrev pub invariant-loop-z : goal.invariant-loop-z
invariant-loop-z l = l.wish ≡ wish_below l.z (plane_wish l.block.edge (seen_at l.block) (Contrast l.field l.refine l.coarsen))

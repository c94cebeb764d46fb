-- Refine is the greatest wish.
use Rattle.std.proofs.Common.{arith}
use Rattle.block_fields.specs.Blocks.{seen_at}
use Rattle.params_check.specs.declared.criterion.Test.TheVariants.{Contrast}
use Rattle.criteria.specs.Lemmas.CellWishes.{plane_wish}
use Rattle.criteria.proofs.GreatestWishes.{wish_below-stops}
use Rattle.criteria.proofs.contrast.contrast_wish.Goals as goal

pub returns-then-is_refine : goal.returns-then-is_refine
returns-then-is_refine c =
    let b = c.args.block.now in
    record {
      wish = wish_below-stops b.edge c.loop-z.z (plane_wish b.edge (seen_at b) (Contrast c.args.field c.args.refine c.args.coarsen))
          c.loop-z.wish c.contrast_plane.result c.greater-wish.result (omega (arith, c.edge-z-end.ensures.edge)) c.loop-z.invariant
          c.contrast_plane.ensures.wish c.greater-wish.ensures.wish (c.is_refine.ensures.refine.0 c.if-is_refine.true);
    }

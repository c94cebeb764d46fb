-- Refine is the greatest wish.
use Rattle.std.proofs.Common.{arith, refl}
use Rattle.block_fields.specs.Blocks.{seen_at}
use Rattle.params_check.specs.declared.criterion.Test.TheVariants.{Slope}
use Rattle.criteria.specs.Lemmas.CellWishes.{plane_wish}
use Rattle.criteria.proofs.GreatestWishes.{wish_below-stops}
use Rattle.criteria.proofs.slope.slope_wish.Goals as goal

pub returns-then-is_refine : goal.returns-then-is_refine
returns-then-is_refine c =
    let b = c.args.block.now in
    let plane = plane_wish b.edge (seen_at b) (Slope c.args.field c.args.refine c.args.coarsen) in
    record {
      wish = wish_below-stops b.edge c.loop-z.z plane c.loop-z.wish (plane c.loop-z.z) c.slope_plane-wish.result (omega (arith, c.edge-z-end.ensures.edge))
          c.loop-z.invariant refl c.slope_plane-wish.ensures.wish (c.is_refine.ensures.refine.0 c.if-is_refine.true);
    }

-- Three columns give the wish of a row; Refine is the greatest wish.
use Rattle.std.proofs.Common.{◌≡◌, ◌+◌, ◌∙◌, ℕ, subst, arith}
use Rattle.block_index.specs.declared.wish.Wish.{Wish}
use Rattle.block_fields.specs.Blocks.{seen_at}
use Rattle.params_check.specs.declared.criterion.Test.TheVariants.{Contrast}
use Rattle.criteria.specs.Lemmas.CellWishes.{row_wish}
use Rattle.criteria.specs.Lemmas.Rows.{HoldsColumn}
use Rattle.criteria.proofs.CellRows.{contrast-row}
use Rattle.criteria.proofs.GreatestWishes.{wish_below-more, wish_below-stops}
use Rattle.criteria.proofs.contrast.contrast_plane.Goals as goal

pub returns-then-is_refine : goal.returns-then-is_refine
returns-then-is_refine c =
    let b = c.args.block.now in
    let y = c.loop-y.y in
    let row : ℕ → Wish = λ y. row_wish b.edge (seen_at b) (Contrast c.args.field c.args.refine c.args.coarsen) y c.args.z in
    let e : c.contrast_row.result ≡ row y = c.contrast_row.ensures.wish
    ∙ contrast-row b c.args.field c.args.refine c.args.coarsen y c.args.z c.loop-y.low.greatest c.loop-y.low.least c.loop-y.here.greatest c.loop-y.here.least
    c.column_at-high.result.greatest c.column_at-high.result.least c.loop-y.invariant.low c.loop-y.invariant.here c.column_at-high.ensures.column
    c.edge-n.result c.edge-n.ensures.edge in
    record {
      wish = wish_below-stops b.edge y row c.loop-y.wish c.contrast_row.result c.greater-wish.result (omega (arith, c.edge-n.ensures.edge))
          c.loop-y.invariant.so_far e c.greater-wish.ensures.wish (c.is_refine.ensures.refine.0 c.if-is_refine.true);
    }

pub loop-y-preserved : goal.loop-y-preserved
loop-y-preserved c =
    let b = c.args.block.now in
    let y = c.loop-y.y in
    let row : ℕ → Wish = λ y. row_wish b.edge (seen_at b) (Contrast c.args.field c.args.refine c.args.coarsen) y c.args.z in
    let e : c.contrast_row.result ≡ row y = c.contrast_row.ensures.wish
    ∙ contrast-row b c.args.field c.args.refine c.args.coarsen y c.args.z c.loop-y.low.greatest c.loop-y.low.least c.loop-y.here.greatest c.loop-y.here.least
    c.column_at-high.result.greatest c.column_at-high.result.least c.loop-y.invariant.low c.loop-y.invariant.here c.column_at-high.ensures.column
    c.edge-n.result c.edge-n.ensures.edge in
    let next : y + 2 ≡ y + 1 + 1 = omega arith in
    record {
      so_far = c.greater-wish.ensures.wish ∙ wish_below-more y row c.loop-y.wish c.contrast_row.result c.loop-y.invariant.so_far e;
      low = c.loop-y.invariant.here;
      here = subst (λ k. HoldsColumn b c.args.field k c.args.z c.column_at-high.result.greatest c.column_at-high.result.least) next c.column_at-high.ensures.column;
    }

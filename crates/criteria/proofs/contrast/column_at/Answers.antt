-- The greatest and the least of three rows.
use Rattle.std.proofs.Common.{◌≤◌, ◌∙◌, slice_index, arith}
use Rattle.criteria.proofs.CellRows.{column-greatest, column-least}
use Rattle.criteria.proofs.contrast.column_at.Goals as goal

pub returns : goal.returns
returns c =
    let b = c.args.block.now in
    let most : b.edge ≤ 16 = c.row_at-low.ensures.limits.most in
    record {
      column = record {
        greatest = λ x h. c.greatest_of.ensures.greatest x (omega arith)
            ∙ column-greatest b c.args.field x c.args.y c.args.z (slice_index c.row_at-low.result x) (slice_index c.row_at-here.result x) (slice_index c.row_at-high.result x)
            (c.row_at-low.ensures.row x h) (c.row_at-here.ensures.row x h) (c.row_at-high.ensures.row x h);
        least = λ x h. c.least_of.ensures.least x (omega arith)
            ∙ column-least b c.args.field x c.args.y c.args.z (slice_index c.row_at-low.result x) (slice_index c.row_at-here.result x) (slice_index c.row_at-high.result x)
            (c.row_at-low.ensures.row x h) (c.row_at-here.ensures.row x h) (c.row_at-high.ensures.row x h);
      };
    }

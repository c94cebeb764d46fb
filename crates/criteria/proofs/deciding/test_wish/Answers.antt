-- The wish by a test of a field is that of its cells.
use Rattle.std.proofs.Common.{sym, ap, ◌∙◌}
use Rattle.block_fields.specs.Blocks.{seen_at}
use Rattle.criteria.specs.Wishes.{test_wish}
use Rattle.criteria.proofs.Agreeing.{cells-Mass, cells-Slope, cells-Contrast}
use Rattle.criteria.proofs.deciding.test_wish.Goals as goal

pub returns-in-Mass : goal.returns-in-Mass
returns-in-Mass c =
    let b = c.args.block.now in
    record {
      wish = c.mass_wish.ensures.wish
          ∙ sym (cells-Mass b.edge (seen_at b) c.in-Mass.field c.in-Mass.refine c.in-Mass.coarsen b.place)
          ∙ sym (ap (λ t. test_wish b.edge (seen_at b) t b.place) c.in-Mass.is);
    }

pub returns-in-Slope : goal.returns-in-Slope
returns-in-Slope c =
    let b = c.args.block.now in
    record {
      wish = c.slope_wish.ensures.wish
          ∙ sym (cells-Slope b.edge (seen_at b) c.in-Slope.field c.in-Slope.refine c.in-Slope.coarsen b.place)
          ∙ sym (ap (λ t. test_wish b.edge (seen_at b) t b.place) c.in-Slope.is);
    }

pub returns-in-Contrast : goal.returns-in-Contrast
returns-in-Contrast c =
    let b = c.args.block.now in
    record {
      wish = c.contrast_wish.ensures.wish
          ∙ sym (cells-Contrast b.edge (seen_at b) c.in-Contrast.field c.in-Contrast.refine c.in-Contrast.coarsen b.place)
          ∙ sym (ap (λ t. test_wish b.edge (seen_at b) t b.place) c.in-Contrast.is);
    }

-- The samples next to a cell, and that none is too great.
use Rattle.std.proofs.Common.{◌≤◌, ◌+◌, ◌||◌, ◌∙◌, sym, subst, get_or, arith}
use Rattle.criteria.specs.Cells.{is_steep}
use Rattle.criteria.specs.Samples.{most_amount}
use Rattle.criteria.proofs.SampleLimits.{gap-most, small-before, small-next, small-own}
use Rattle.criteria.proofs.SteepCells.{some_steep-samples}
use Rattle.criteria.proofs.slope.steep_cell.Goals as goal

pub is_steep-requires-clause-q : goal.is_steep-requires-clause-q
is_steep-requires-clause-q c =
    let a = c.args in
    let r = c.requires in
    small-own a.block.now a.field a.x (a.y + 1) (a.z + 1) a.here r.small r.field r.x (omega (arith, r.y)) (omega (arith, r.z)) r.here

pub is_steep-requires-clause-dx : goal.is_steep-requires-clause-dx
is_steep-requires-clause-dx c =
    let a = c.args in
    let r = c.requires in
    let b = a.block.now in
    subst (λ k. k ≤ most_amount) (sym c.abs_diff-across_x.ensures)
    (gap-most a.right a.left most_amount
    (small-next b a.field a.x (a.y + 1) (a.z + 1) a.right r.small r.field r.x (omega (arith, r.y)) (omega (arith, r.z)) r.right)
    (small-before b a.field a.x (a.y + 1) (a.z + 1) a.left r.small r.field r.x (omega (arith, r.y)) (omega (arith, r.z)) r.left))

pub is_steep-requires-clause-dy : goal.is_steep-requires-clause-dy
is_steep-requires-clause-dy c =
    let a = c.args in
    let r = c.requires in
    let b = a.block.now in
    let high = get_or a.rows.now.high_y.now a.x 0 in
    let low = get_or a.rows.now.low_y.now a.x 0 in
    subst (λ k. k ≤ most_amount) (sym c.abs_diff-across_y.ensures)
    (gap-most high low most_amount
    (small-own b a.field a.x (a.y + 2) (a.z + 1) high r.small r.field r.x (omega (arith, r.y)) (omega (arith, r.z)) (r.rows.high_y.seen a.x r.x))
    (small-own b a.field a.x a.y (a.z + 1) low r.small r.field r.x (omega (arith, r.y)) (omega (arith, r.z)) (r.rows.low_y.seen a.x r.x)))

pub is_steep-requires-clause-dz : goal.is_steep-requires-clause-dz
is_steep-requires-clause-dz c =
    let a = c.args in
    let r = c.requires in
    let b = a.block.now in
    let high = get_or a.rows.now.high_z.now a.x 0 in
    let low = get_or a.rows.now.low_z.now a.x 0 in
    subst (λ k. k ≤ most_amount) (sym c.abs_diff-across_z.ensures)
    (gap-most high low most_amount
    (small-own b a.field a.x (a.y + 1) (a.z + 2) high r.small r.field r.x (omega (arith, r.y)) (omega (arith, r.z)) (r.rows.high_z.seen a.x r.x))
    (small-own b a.field a.x (a.y + 1) a.z low r.small r.field r.x (omega (arith, r.y)) (omega (arith, r.z)) (r.rows.low_z.seen a.x r.x)))

pub returns : goal.returns
returns c =
    let a = c.args in
    let r = c.requires in
    let h = a.hundredths in
    let q = a.here in
    record {
      steep = c.is_steep.ensures.steep
          ∙ (λ i. is_steep h q (c.abs_diff-across_x.ensures i) || is_steep h q (c.abs_diff-across_y.ensures i) || is_steep h q (c.abs_diff-across_z.ensures i))
          ∙ some_steep-samples a.block.now a.field h a.x a.y a.z a.left q a.right (get_or a.rows.now.low_y.now a.x 0) (get_or a.rows.now.high_y.now a.x 0)
          (get_or a.rows.now.low_z.now a.x 0) (get_or a.rows.now.high_z.now a.x 0) r.left r.here r.right (r.rows.low_y.seen a.x r.x) (r.rows.high_y.seen a.x r.x)
          (r.rows.low_z.seen a.x r.x) (r.rows.high_z.seen a.x r.x);
    }

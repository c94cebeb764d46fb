-- One cell more that isn't steep, or the first that is; the last cell has the sample past the row.
use Rattle.std.proofs.Common.{◌≡◌, ◌+◌, ◌-◌, Bool, ℕ, sym, ap, ◌∙◌, arith}
use Rattle.block_fields.specs.Blocks.{seen_at}
use Rattle.criteria.specs.Cells.{some_below, some_steep}
use Rattle.criteria.specs.Samples.{before}
use Rattle.criteria.proofs.CellRows.{before-one}
use Rattle.criteria.proofs.SteepCells.{some_below-last, some_below-none, some_below-one}
use Rattle.criteria.proofs.slope.steep_row.Goals as goal

pub returns-then-steep_cell : goal.returns-then-steep_cell
returns-then-steep_cell c =
    let b = c.args.block.now in
    let cell : ℕ → Bool = λ x. some_steep (seen_at b c.args.field) c.args.hundredths x c.args.y c.args.z in
    record {
      steep = sym (some_below-one b.edge c.loop-x.x cell (omega (arith, c.edge.ensures.edge)) (sym c.steep_cell.ensures.steep ∙ c.if-steep_cell.true));
    }

pub loop-x-preserved : goal.loop-x-preserved
loop-x-preserved c =
    let b = c.args.block.now in
    let s = seen_at b c.args.field in
    let x = c.loop-x.x in
    let cell : ℕ → Bool = λ x. some_steep s c.args.hundredths x c.args.y c.args.z in
    record {
      left = c.loop-x.invariant.here ∙ ap (λ u. s u (before (c.args.y + 1)) (before (c.args.z + 1))) (sym (before-one x));
      here = c.requires.rows.here.seen (x + 1) (omega (arith, c.edge.ensures.edge));
      none = some_below-none x cell c.loop-x.invariant.none (sym c.steep_cell.ensures.steep ∙ c.if-steep_cell.false);
    }

pub steep_cell-requires-2-clause-left : goal.steep_cell-requires-2-clause-left
steep_cell-requires-2-clause-left c =
    let end : c.loop-x.x ≡ c.edge.result - 1 = omega arith in
    c.loop-x.invariant.left ∙ ap (λ x. seen_at c.args.block.now c.args.field (before x) (before (c.args.y + 1)) (before (c.args.z + 1))) end

pub returns : goal.returns
returns c =
    let b = c.args.block.now in
    let cell : ℕ → Bool = λ x. some_steep (seen_at b c.args.field) c.args.hundredths x c.args.y c.args.z in
    let end : c.loop-x.x ≡ c.edge.result - 1 = omega arith in
    let next : c.edge.result - 1 + 1 ≡ b.edge = omega (arith, c.edge.ensures.edge, c.edge.ensures.limits.least) in
    record {
      steep = c.steep_cell-2.ensures.steep
          ∙ some_below-last (c.edge.result - 1) cell (sym (ap (λ n. some_below n cell) end) ∙ c.loop-x.invariant.none)
          ∙ ap (λ n. some_below n cell) next;
    }

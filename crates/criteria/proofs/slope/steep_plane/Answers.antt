-- One row more without a steep cell, or the first one with one.
use Rattle.std.proofs.Common.{◌≡◌, Bool, ℕ, sym, ◌∙◌, ap, arith}
use Rattle.block_fields.specs.Blocks.{seen_at}
use Rattle.criteria.specs.Cells.{some_below}
use Rattle.criteria.specs.Lemmas.CellWishes.{steep_row}
use Rattle.criteria.proofs.SteepCells.{some_below-none, some_below-one}
use Rattle.criteria.proofs.slope.steep_plane.Goals as goal

pub returns-then-steep_row : goal.returns-then-steep_row
returns-then-steep_row c =
    let b = c.args.block.now in
    let row : ℕ → Bool = λ y. steep_row b.edge (seen_at b c.args.field) c.args.hundredths y c.args.z in
    record {
      steep = sym (some_below-one b.edge c.loop-y.y row (omega (arith, c.edge-y-end.ensures.edge)) (sym c.steep_row.ensures.steep ∙ c.if-steep_row.true));
    }

pub loop-y-preserved : goal.loop-y-preserved
loop-y-preserved c =
    let b = c.args.block.now in
    let row : ℕ → Bool = λ y. steep_row b.edge (seen_at b c.args.field) c.args.hundredths y c.args.z in
    some_below-none c.loop-y.y row c.loop-y.invariant (sym c.steep_row.ensures.steep ∙ c.if-steep_row.false)

pub returns : goal.returns
returns c =
    let b = c.args.block.now in
    let row : ℕ → Bool = λ y. steep_row b.edge (seen_at b c.args.field) c.args.hundredths y c.args.z in
    record {
      steep = sym (ap (λ n. some_below n row) (let e : b.edge ≡ c.loop-y.y = omega (arith, c.edge-y-end.ensures.edge) in e) ∙ c.loop-y.invariant);
    }

-- The cells of a row, one after another.
use Rattle.std.proofs.Common.{ℕ, suc, ◌+◌, ◌<◌, ◌≤◌, sym, ap, ◌∙◌, arith, get_or, get_or-set_other, length-set, length, refl}
use Rattle.block_fields.specs.Blocks.{seen_at}
use Rattle.criteria.specs.Samples.{before}
use Rattle.criteria.proofs.Written.{written-ends, written-next}
use Rattle.criteria.proofs.row.row_at.Goals as goal

pub loop-x-preserved : goal.loop-x-preserved
loop-x-preserved c =
    let v : ℕ = get_or c.middle_of-middle.result.now c.loop-x.x 0 in
    let most : c.args.block.now.edge ≤ 16 = c.edge-n.ensures.limits.most in
    let edge = c.edge-n.ensures.edge in
    record {
      long = length-set c.loop-x.row (c.loop-x.x + 1) v ∙ c.loop-x.invariant.long;
      first = get_or-set_other c.loop-x.row (c.loop-x.x + 1) 0 v 0 (omega arith) ∙ c.loop-x.invariant.first;
      cells = written-next (λ k. get_or c.middle_of-middle.result.now k 0) c.loop-x.row c.loop-x.x v (omega arith) c.loop-x.invariant.cells refl;
    }

pub returns-clause-row : goal.returns-clause-row
returns-clause-row c x h =
    let b = c.args.block.now in
    let P : ℕ → ℕ = λ x. seen_at b c.args.field (before x) (before c.args.y) (before c.args.z) in
    let most : b.edge ≤ 16 = c.edge-n.ensures.limits.most in
    let edge = c.edge-n.ensures.edge in
    let long : c.edge-n.result + 1 < length c.loop-x.row = omega arith in
    written-ends P c.loop-x.row c.edge-n.result c.low_end.result c.high_end.result long c.loop-x.invariant.first c.low_end.ensures.seen
    (λ k hk. c.loop-x.invariant.cells k (omega arith) ∙ c.middle_of-middle.ensures.row.seen k (omega arith))
    (c.high_end.ensures.seen ∙ ap (λ n. P (suc n)) (sym edge)) x (omega arith)

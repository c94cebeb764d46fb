-- The shapes so far.
use Rattle.std.proofs.Common.{◌≡◌, ◌*◌, ◌^◌, ◌≤◌, take, sum_by}
use Rattle.params_check.proofs.ShapeTotals.{shape_total}
use Rattle.params_check.proofs.totals.initial_total.Given as goal

abbrev pub invariant-loop-shape : goal.invariant-loop-shape
invariant-loop-shape l = record {
  total : l.total ≡ sum_by (shape_total l.edges l.field) (take l.shape-index l.shapes);
  few : l.total ≤ l.shape-index * 2 ^ 112;
}

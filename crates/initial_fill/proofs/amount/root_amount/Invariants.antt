-- The shapes so far.
use Rattle.std.proofs.Common.{◌≡◌, ◌*◌, ◌^◌, ◌≤◌, take}
use Rattle.params_check.specs.Amounts.{root_amount}
use Rattle.initial_fill.proofs.amount.root_amount.Given as goal

abbrev pub invariant-loop-shape : goal.invariant-loop-shape
invariant-loop-shape l = record {
  amount : l.amount ≡ root_amount (take l.shape-index l.params.shapes) l.field l.x l.y l.z;
  few : l.amount ≤ l.shape-index * 2 ^ 40;
}

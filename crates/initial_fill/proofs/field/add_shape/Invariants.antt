-- The planes so far.
use Rattle.std.proofs.Common.{◌*◌, ◌≤◌}
use Rattle.initial_fill.specs.Lemmas.Adding.{Adds, holds_in_rows}
use Rattle.initial_fill.proofs.field.add_shape.Given as goal

abbrev pub invariant-loop-z : goal.invariant-loop-z
invariant-loop-z l = record {
  within : l.z ≤ l.n;
  added : Adds (holds_in_rows l.shape.form l.n l.place 0 (l.z * l.n)) l.shape.amount l.initial.amounts l.amounts;
}

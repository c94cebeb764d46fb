-- The rows so far.
use Rattle.std.proofs.Common.{◌+◌, ◌*◌, ◌≤◌}
use Rattle.initial_fill.specs.Lemmas.Adding.{Adds, holds_in_rows}
use Rattle.initial_fill.proofs.field.add_plane.Given as goal

abbrev pub invariant-loop-y : goal.invariant-loop-y
invariant-loop-y l = record {
  within : l.y ≤ l.n;
  added : Adds (holds_in_rows l.shape.form l.n l.place (l.z * l.n) (l.z * l.n + l.y)) l.shape.amount l.initial.amounts l.amounts;
}

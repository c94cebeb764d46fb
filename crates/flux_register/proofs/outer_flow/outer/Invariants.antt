-- The leaves so far.
use Rattle.std.proofs.Common.{◌≡◌, ℕ, ◌<◌, ◌≤◌, slice_index, take}
use Rattle.flux_register.specs.Lemmas.Outward.{out_of_cells}
use Rattle.flux_register.proofs.outer_flow.outer.Given as goal

abbrev pub invariant-loop-cell : goal.invariant-loop-cell
invariant-loop-cell l = record {
  each : (f : ℕ) → f < l.fn.quiet.problem.setting.fields → slice_index l.sums f ≡ out_of_cells l.fn.domain (take l.cell-index l.cell-items) f;
  rest : (f : ℕ) → l.fn.quiet.problem.setting.fields ≤ f → slice_index l.sums f ≡ 0;
}

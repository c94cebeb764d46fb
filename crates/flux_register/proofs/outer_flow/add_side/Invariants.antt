-- The fields so far.
use Rattle.std.proofs.Common.{◌≡◌, ℕ, ◌<◌, ◌≤◌, slice_index, sum, ◌+◌, length}
use Rattle.advect.specs.FaceFluxes.{fluxes_on}
use Rattle.flux_register.proofs.outer_flow.add_side.Given as goal

abbrev pub invariant-loop-field : goal.invariant-loop-field
invariant-loop-field l = record {
  each : (f : ℕ) → f < l.field → slice_index l.sums f ≡ slice_index l.fn.sums f + sum (fluxes_on l.fn.faces f l.fn.side);
  rest : (f : ℕ) → l.field ≤ f → slice_index l.sums f ≡ slice_index l.fn.sums f;
  long : length l.sums ≡ 4;
}

-- The fields so far.
use Rattle.std.proofs.Common.{◌≡◌, ℕ, ◌+◌, ◌<◌, ◌≤◌, slice_index}
use Rattle.params_check.specs.Parameters.{total_of}
use Rattle.checkpoint.proofs.sums.gone.Given as goal

abbrev pub invariant-loop-f : goal.invariant-loop-f
invariant-loop-f l = record {
  within : l.f ≤ l.fields;
  kept : (g : ℕ) → g < l.f → slice_index l.total g + slice_index l.gone g ≡ total_of l.params g;
}

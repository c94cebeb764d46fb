-- The fields so far.
use Rattle.std.proofs.Common.{◌≡◌, ℕ, ◌<◌, ◌≤◌, slice_index}
use Rattle.checkpoint.proofs.sums.totals.Given as goal

abbrev pub invariant-loop-f : goal.invariant-loop-f
invariant-loop-f l = record {
  within : l.f ≤ l.fields;
  kept : (g : ℕ) → g < l.f → slice_index l.stated g ≡ slice_index l.sums g;
}

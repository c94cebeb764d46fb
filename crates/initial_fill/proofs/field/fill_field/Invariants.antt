-- The shapes so far.
use Rattle.std.proofs.Common.{◌≡◌, ℕ, ◌*◌, ◌^◌, ◌<◌, ◌≤◌, length, slice_index, take}
use Rattle.initial_fill.proofs.Amounts.{amount_of_number}
use Rattle.initial_fill.proofs.field.fill_field.Given as goal

abbrev pub invariant-loop-shape : goal.invariant-loop-shape
invariant-loop-shape l = record {
  long : length l.amounts ≡ l.n * l.n * l.n;
  added : (j : ℕ) → j < length l.amounts → slice_index l.amounts j ≡ amount_of_number (take l.shape-index l.params.shapes) l.field l.n l.place j;
  few : (j : ℕ) → j < length l.amounts → slice_index l.amounts j ≤ l.shape-index * 2 ^ 40;
}

use Rattle.std.proofs.Common.{◌≡◌, ℕ, ◌*◌, ◌<◌, length, slice_index}
use Rattle.prolong_restrict.specs.Lemmas.SplitNumbers.{split_part}
use Rattle.prolong_restrict.proofs.split.split_field.Given as goal

abbrev pub invariant-loop-r : goal.invariant-loop-r
invariant-loop-r l = record {
  filled : (j : ℕ) → j < l.r * l.n → slice_index l.child j ≡ split_part l.n l.k l.parent j;
  long : length l.child ≡ l.n * l.n * l.n;
}

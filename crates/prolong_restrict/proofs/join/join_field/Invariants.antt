use Rattle.std.proofs.Common.{◌≡◌, ℕ, ◌*◌, ◌<◌, length, slice_index}
use Rattle.prolong_restrict.specs.Lemmas.JoinNumbers.{joined_sum}
use Rattle.prolong_restrict.proofs.join.join_field.Given as goal

abbrev pub invariant-loop-r : goal.invariant-loop-r
invariant-loop-r l = record {
  filled : (j : ℕ) → j < l.r * l.n → slice_index l.parent j ≡ joined_sum l.n l.field l.children j;
  long : length l.parent ≡ l.n * l.n * l.n;
}

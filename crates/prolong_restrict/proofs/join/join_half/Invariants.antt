use Rattle.std.proofs.Common.{◌≡◌, ℕ, ◌+◌, ◌*◌, ◌<◌, slice_index}
use Rattle.prolong_restrict.specs.Lemmas.JoinNumbers.{eight_from}
use Rattle.prolong_restrict.proofs.join.join_half.Given as goal

abbrev pub invariant-loop-h : goal.invariant-loop-h
invariant-loop-h l = record {
  row : (x : ℕ) → x < l.h → slice_index l.parent (l.start + x) ≡ eight_from l.n l.child (l.from + 2 * x);
  earlier : (j : ℕ) → j < l.start → slice_index l.parent j ≡ slice_index l.initial.parent j;
}

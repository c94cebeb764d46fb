use Rattle.std.proofs.Common.{◌≡◌, ℕ, ◌+◌, ◌*◌, ◌/◌, ◌%◌, ◌<◌, slice_index}
use Rattle.cello_num.specs.Parts.{part}
use Rattle.prolong_restrict.proofs.split.split_row.Given as goal

abbrev pub invariant-loop-h : goal.invariant-loop-h
invariant-loop-h l = record {
  row : (x : ℕ) → x < 2 * l.h → slice_index l.child (l.start + x) ≡ part (slice_index l.parent (l.from + x / 2)) (l.first + x % 2);
  earlier : (j : ℕ) → j < l.start → slice_index l.child j ≡ slice_index l.initial.child j;
}

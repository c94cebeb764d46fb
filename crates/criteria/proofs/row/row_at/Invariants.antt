-- The cell in front, and the cells of the block's own columns so far.
use Rattle.std.proofs.Common.{◌≡◌, ℕ, ◌+◌, ◌<◌, get_or, length}
use Rattle.criteria.proofs.row.row_at.Given as goal

abbrev pub invariant-loop-x : goal.invariant-loop-x
invariant-loop-x l = record {
  long : length l.row ≡ 18;
  first : get_or l.row 0 0 ≡ get_or l.initial.row 0 0;
  cells : (k : ℕ) → k < l.x → get_or l.row (k + 1) 0 ≡ get_or l.middle k 0;
}

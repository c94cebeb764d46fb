use Rattle.std.proofs.Common.{◌≡◌, ℕ, ◌+◌, ◌*◌, ◌<◌, slice_index}
use Rattle.ghost_pieces.proofs.copied_boxes.copy_line.Given as goal

abbrev pub invariant-loop-i : goal.invariant-loop-i
invariant-loop-i l = record {
  line : (j : ℕ) → j < l.i → slice_index l.out (l.at + j) ≡ slice_index l.q (l.first + j * l.step);
  earlier : (j : ℕ) → j < l.at → slice_index l.out j ≡ slice_index l.initial.out j;
}

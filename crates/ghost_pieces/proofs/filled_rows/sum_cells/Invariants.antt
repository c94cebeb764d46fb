use Rattle.std.proofs.Common.{◌≡◌, ℕ, ◌+◌, ◌*◌, ◌<◌, slice_index}
use Rattle.ghost_pieces.specs.Lemmas.Parts.{further}
use Rattle.ghost_pieces.specs.Lemmas.Rows.{eight_from}
use Rattle.ghost_pieces.proofs.filled_rows.sum_cells.Given as goal

abbrev pub invariant-loop-i : goal.invariant-loop-i
invariant-loop-i l = record {
  row : (j : ℕ) → j < l.i → slice_index l.out (l.at + j) ≡ eight_from l.n l.q (l.first + 2 * further l.x.start l.x.runs j);
  earlier : (j : ℕ) → j < l.at → slice_index l.out j ≡ slice_index l.initial.out j;
}

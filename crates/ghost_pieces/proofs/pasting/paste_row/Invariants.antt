use Rattle.std.proofs.Common.{◌≡◌, ℕ, ◌+◌, ◌<◌, ◌≤◌, ◌⊎◌, slice_index}
use Rattle.ghost_pieces.proofs.pasting.paste_row.Given as goal

abbrev pub invariant-loop-i : goal.invariant-loop-i
invariant-loop-i l = record {
  row : (j : ℕ) → j < l.i → slice_index l.list (l.at + j) ≡ slice_index l.amounts (l.from + j);
  kept : (j : ℕ) → (j < l.at) ⊎ (l.at + l.count ≤ j) → slice_index l.list j ≡ slice_index l.initial.list j;
}

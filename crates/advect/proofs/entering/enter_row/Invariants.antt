use Rattle.std.proofs.Common.{◌≡◌, ℕ, ◌+◌, ◌<◌, slice_index}
use Rattle.advect.specs.Lemmas.Shares.{carried}
use Rattle.advect.proofs.entering.enter_row.Given as goal

abbrev pub invariant-loop-i : goal.invariant-loop-i
invariant-loop-i l = record {
  row : (i : ℕ) → i < l.i → slice_index l.faces (l.face + i) ≡ carried l.share (slice_index l.ghosts (l.at + i));
  earlier : (k : ℕ) → k < l.face → slice_index l.faces k ≡ slice_index l.initial.faces k;
}

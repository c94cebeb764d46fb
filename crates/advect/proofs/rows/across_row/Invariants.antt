use Rattle.std.proofs.Common.{◌≡◌, ℕ, ◌+◌, ◌-◌, ◌<◌, ◌≤◌, slice_index}
use Rattle.advect.specs.Lemmas.Shares.{carried}
use Rattle.advect.specs.Lemmas.Passes.{base}
use Rattle.advect.proofs.rows.across_row.Given as goal

abbrev pub invariant-loop-i : goal.invariant-loop-i
invariant-loop-i l = record {
  moved : (j : ℕ) → j < l.i → slice_index l.next (l.at + j) ≡ base l.first l.amounts l.initial.next (l.at + j) - carried l.share (slice_index l.amounts (l.at + j)) + slice_index l.initial.faces (l.face + j);
  leaves : (j : ℕ) → j < l.i → slice_index l.faces (l.face + j) ≡ carried l.share (slice_index l.amounts (l.at + j));
  cells_before : (k : ℕ) → k < l.at → slice_index l.next k ≡ slice_index l.initial.next k;
  cells_after : (k : ℕ) → l.at + l.i ≤ k → slice_index l.next k ≡ slice_index l.initial.next k;
  faces_before : (k : ℕ) → k < l.face → slice_index l.faces k ≡ slice_index l.initial.faces k;
  faces_after : (k : ℕ) → l.face + l.i ≤ k → slice_index l.faces k ≡ slice_index l.initial.faces k;
}

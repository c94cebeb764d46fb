use Rattle.std.proofs.Common.{◌≡◌, ℕ, ◌+◌, ◌*◌, ◌/◌, ◌<◌, slice_index}
use Rattle.advect.specs.FluxPieces.{sum_of_four}
use Rattle.advect.proofs.reducing.reduce_row.Given as goal

abbrev pub invariant-loop-i : goal.invariant-loop-i
invariant-loop-i l = record {
  row : (i : ℕ) → i < l.i → slice_index l.sums (l.j * (l.n / 2) + i) ≡ sum_of_four l.n l.fluxes (l.j * (l.n / 2) + i);
  earlier : (k : ℕ) → k < l.j * (l.n / 2) → slice_index l.sums k ≡ slice_index l.initial.sums k;
}

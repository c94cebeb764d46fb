use Rattle.std.proofs.Common.{◌≡◌, ℕ, ◌*◌, ◌/◌, ◌<◌, slice_index}
use Rattle.advect.specs.FluxPieces.{sum_of_four}
use Rattle.advect.proofs.reducing.reduce_field.Given as goal

abbrev pub invariant-loop-j : goal.invariant-loop-j
invariant-loop-j l = (k : ℕ) → k < l.j * (l.n / 2) → slice_index l.sums k ≡ sum_of_four l.n l.fluxes k

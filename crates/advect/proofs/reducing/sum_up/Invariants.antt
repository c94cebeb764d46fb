use Rattle.std.proofs.Common.{◌≡◌, ℕ, ◌*◌, ◌/◌, ◌<◌, List, [], Some, length, slice_get, slice_index_or}
use Rattle.advect.specs.FaceFluxes.{fluxes_on}
use Rattle.advect.specs.FluxPieces.{sums_of_four}
use Rattle.advect.proofs.Insides.{elements}
use Rattle.advect.proofs.reducing.sum_up.Given as goal

abbrev pub invariant-loop-field : goal.invariant-loop-field
invariant-loop-field l = record {
  long : length (elements l.sums.items) ≡ l.faces.fields;
  sizes : (f : ℕ) (q : List ℕ) → slice_get (elements l.sums.items) f ≡ Some q → length q ≡ l.n / 2 * (l.n / 2);
  written : (f : ℕ) → f < l.field → slice_index_or (elements l.sums.items) f [] ≡ sums_of_four l.n (fluxes_on l.faces f l.d);
}

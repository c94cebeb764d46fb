-- No leaf so far is coarser.
use Rattle.std.proofs.Common.{◌≡◌, ℕ, ◌<◌, ◌≤◌, Some, get_or}
use Rattle.std.specs.Prelude.{slice_get}
use Rattle.block_index.specs.Places.{Cube}
use Rattle.flux_register.proofs.coarse_faces.has_none_coarser.Given as goal

abbrev pub invariant-loop-leaf : goal.invariant-loop-leaf
invariant-loop-leaf l = record {
  fine : (k : ℕ) (c : Cube) → k < l.leaf-index → slice_get l.set.places (get_or l.touching k 0) ≡ Some c → l.level ≤ c.level;
}

-- No leaf so far wishes past the finest level.
use Rattle.std.proofs.Common.{ℕ, ◌<◌}
use Rattle.block_index.specs.Places.{Cube}
use Rattle.run_core.specs.Runs.{WishesTooFine}
use Rattle.run_core.proofs.phase.level_limit.Given as goal

abbrev pub invariant-loop-i : goal.invariant-loop-i
invariant-loop-i l = record {
  none : (j : ℕ) (c : Cube) → j < l.i → WishesTooFine l.params l.set.places l.wishes j c → ⊥;
}

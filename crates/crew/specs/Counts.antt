-- What crews know of how many messages an adapt phase handled.
use Rattle.std.specs.Prelude.{ℕ, ◌+◌, ◌*◌, ◌≤◌, length}
use Rattle.adapt_core.specs.Cells.{AdaptProblem}
use Rattle.adapt_core.specs.Holds.{touching_pairs}
use Rattle.adapt_core.specs.Problem.{mesh_of, wishes_of}
use Rattle.run_core.specs.PlainCounts.{IsPlainCount}

-- as many as one thread handles, first in, first out
abbrev pub CountsPlainly : AdaptProblem → ℕ → Type 0
CountsPlainly p count = IsPlainCount p.grid (mesh_of p) (wishes_of p) count

-- at least one for each leaf, and at most one more for each of three times the ordered pairs of leaves that touch
pub record CountsWithin (p : AdaptProblem) (count : ℕ) : Type 0 where
  pub least : length (mesh_of p) ≤ count
  pub most : count ≤ length (mesh_of p) + 3 * touching_pairs p

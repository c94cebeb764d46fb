-- The siblings among the leaves so far.
use Rattle.std.proofs.Common.{◌≡◌, take}
use Rattle.adapt_core.specs.Problem.{siblings_among}
use Rattle.adapt_core.proofs.first_cells.siblings_among.Given as goal

abbrev pub invariant-loop-j : goal.invariant-loop-j
invariant-loop-j l = l.siblings.items ≡ siblings_among l.set.places l.place (take l.j-index l.leaves)

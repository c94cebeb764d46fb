use Rattle.cello_bench.specs.Inputs.{AllFit}
use Rattle.cello_bench.proofs.ghosts.made.Given as goal

abbrev pub invariant-loop-at : goal.invariant-loop-at
invariant-loop-at l = AllFit l.grid.set l.size.edge l.size.depth l.size.fields l.found.items

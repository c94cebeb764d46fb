use Rattle.std.proofs.Common.{◌≡◌, length}
use Rattle.cello_bench.specs.Inputs.{AllFit}
use Rattle.cello_bench.proofs.ghosts.fill_all.Given as goal

abbrev pub invariant-loop-k : goal.invariant-loop-k
invariant-loop-k l = record {
  fit : AllFit l.grid.set l.size.edge l.size.depth l.size.fields l.pieces.items;
  long : length l.pieces.items ≡ length l.fn.pieces.items;
}

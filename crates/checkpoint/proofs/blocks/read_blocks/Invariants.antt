-- The blocks so far.
use Rattle.std.proofs.Common.{◌≡◌, ◌≤◌, length}
use Rattle.checkpoint.specs.Lemmas.AmountSteps.{BlocksRead}
use Rattle.checkpoint.proofs.blocks.read_blocks.Given as goal

abbrev pub invariant-loop-i : goal.invariant-loop-i
invariant-loop-i l = record {
  within : l.i ≤ length l.places;
  long : length l.sums ≡ length l.initial.sums;
  read : BlocksRead l.size l.n l.fields l.places l.bytes l.i l.blocks.items l.sums;
}

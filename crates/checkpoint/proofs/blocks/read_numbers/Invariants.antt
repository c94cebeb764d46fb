-- The numbers so far.
use Rattle.std.proofs.Common.{◌≡◌, ◌≤◌, length}
use Rattle.checkpoint.specs.Lemmas.AmountSteps.{NumbersRead}
use Rattle.checkpoint.proofs.blocks.read_numbers.Given as goal

abbrev pub invariant-loop-j : goal.invariant-loop-j
invariant-loop-j l = record {
  within : l.j ≤ length l.numbers;
  long : length l.numbers ≡ length l.initial.numbers;
  read : NumbersRead l.bytes l.numbers l.j l.total;
}

-- The fields so far.
use Rattle.std.proofs.Common.{◌≡◌, ◌≤◌, length}
use Rattle.checkpoint.specs.Lemmas.AmountSteps.{FieldsRead}
use Rattle.checkpoint.proofs.blocks.read_block.Given as goal

abbrev pub invariant-loop-f : goal.invariant-loop-f
invariant-loop-f l = record {
  within : l.f ≤ l.fields;
  same : l.block ≡ record l.initial.block { amounts = l.block.amounts };
  long : length l.block.amounts ≡ length l.initial.block.amounts;
  read : FieldsRead l.size l.bytes l.f l.block l.initial.sums l.sums;
}

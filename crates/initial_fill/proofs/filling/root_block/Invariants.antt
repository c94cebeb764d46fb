-- The fields so far.
use Rattle.std.proofs.Common.{◌≡◌, ℕ, ◌*◌, ◌<◌, ◌≤◌, length, map, replicate}
use Rattle.block_fields.specs.Blocks.{amounts_of}
use Rattle.block_fields.specs.Cells.{cells_of}
use Rattle.initial_fill.specs.RootBlocks.{given_by}
use Rattle.initial_fill.proofs.filling.root_block.Given as goal

abbrev pub invariant-loop-f : goal.invariant-loop-f
invariant-loop-f l = record {
  same : l.block ≡ record l.initial.block { amounts = l.block.amounts };
  long : length l.block.amounts ≡ length l.initial.block.amounts;
  rest : (g : ℕ) → l.f ≤ g → g < length l.params.fields → amounts_of l.block g ≡ replicate (l.params.block * l.params.block * l.params.block) 0;
  filled : (g : ℕ) → g < l.f → amounts_of l.block g ≡ map (given_by l.params g) (cells_of l.params.block l.place);
}

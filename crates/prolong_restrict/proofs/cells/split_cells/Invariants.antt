use Rattle.std.proofs.Common.{◌≡◌, ℕ, ◌<◌, length}
use Rattle.block_fields.specs.Blocks.{amounts_of}
use Rattle.prolong_restrict.specs.Lemmas.SplitNumbers.{split_list}
use Rattle.prolong_restrict.proofs.cells.split_cells.Given as goal

abbrev pub invariant-loop-f : goal.invariant-loop-f
invariant-loop-f l = record {
  same : l.child ≡ record l.initial.child { amounts = l.child.amounts };
  long : length l.child.amounts ≡ length l.initial.child.amounts;
  written : (g : ℕ) → g < l.f → amounts_of l.child g ≡ split_list l.n l.k (amounts_of l.parent g);
}

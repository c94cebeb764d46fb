use Rattle.std.proofs.Common.{◌≡◌, ℕ, ◌<◌, length}
use Rattle.block_fields.specs.Blocks.{amounts_of}
use Rattle.prolong_restrict.specs.Lemmas.JoinNumbers.{join_list}
use Rattle.prolong_restrict.proofs.cells.join_cells.Given as goal

abbrev pub invariant-loop-f : goal.invariant-loop-f
invariant-loop-f l = record {
  same : l.parent ≡ record l.initial.parent { amounts = l.parent.amounts };
  long : length l.parent.amounts ≡ length l.initial.parent.amounts;
  written : (g : ℕ) → g < l.f → amounts_of l.parent g ≡ join_list l.n g l.children;
}

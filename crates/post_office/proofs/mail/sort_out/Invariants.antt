use Rattle.std.proofs.Common.{◌≡◌, ◌<◌, ◌++◌, length}
use Rattle.std.specs.Prelude.{All, IsPermutation}
use Rattle.quiet_table.specs.Contents.{pool}
use Rattle.post_office.specs.Shares.{Sorted}
use Rattle.post_office.proofs.mail.sort_out.Given as goal

abbrev pub invariant-loop-envelope : goal.invariant-loop-envelope
invariant-loop-envelope g l = record {
  same : IsPermutation (pool l.fn.mail.items ++ l.fn.fresh.items) (pool l.mail.items ++ l.fresh.items);
  sorted : Sorted l.owners l.mail.items;
  count : length l.mail.items ≡ length l.fn.mail.items;
  addressed : All (λ e. e.to < length l.owners) l.fresh.items;
}

abbrev pub decreases-loop-envelope : goal.decreases-loop-envelope
decreases-loop-envelope g l = length l.fresh.items

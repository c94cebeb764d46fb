use Rattle.std.proofs.Common.{◌≡◌, ◌<◌, ℕ, length, Some, get_or}
use Rattle.std.specs.Prelude.{slice_get}
use Rattle.post_office.specs.Shares.{rank}
use Rattle.post_office.proofs.opening.rank_all.Given as goal

abbrev pub invariant-loop-i : goal.invariant-loop-i
invariant-loop-i l = record {
  wide : length l.counts.items ≡ l.shards;
  counted : (s : ℕ) → s < l.shards → get_or l.counts.items s 0 ≡ rank l.owners s l.i;
  long : length l.ranks.items ≡ l.i;
  ranked : (j s : ℕ) → j < l.i → slice_get l.owners j ≡ Some s → slice_get l.ranks.items j ≡ Some (rank l.owners s j);
}

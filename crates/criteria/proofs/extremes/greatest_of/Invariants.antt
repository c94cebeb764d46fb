-- The positions that have been compared.
use Rattle.std.proofs.Common.{◌≡◌, ℕ, ◌<◌, get_or, length, max}
use Rattle.criteria.proofs.extremes.greatest_of.Given as goal

abbrev pub invariant-loop-x : goal.invariant-loop-x
invariant-loop-x l = record {
  long : length l.all ≡ 18;
  so_far : (k : ℕ) → k < l.x → get_or l.all k 0 ≡ max (get_or l.a k 0) (max (get_or l.b k 0) (get_or l.c k 0));
}

use Rattle.std.proofs.Common.{◌≡◌, ℕ, ◌<◌, false, get_or}
use Rattle.ghost_pieces.specs.Filing.{is_same_source}
use Rattle.ghost_pieces.proofs.filed_set.is_listed.Given as goal

abbrev pub invariant-loop-other : goal.invariant-loop-other
invariant-loop-other l = (k : ℕ) → k < l.other-index → is_same_source l.source (get_or l.sources k l.source) ≡ false

-- What holds at each turn of the loop.
use Rattle.std.proofs.Common.{◌≡◌}
use Rattle.block_index.specs.Places.{IsInside}
use Rattle.leaf_set.specs.Lemmas.Stretches.{ending}
use Rattle.leaf_set.proofs.bare_places.place_after.Given as goal

-- the last place looked at ends where the first does
abbrev pub invariant-loop-parent : goal.invariant-loop-parent
invariant-loop-parent l = record { inside : IsInside l.domain l.last; ends : ending l.last ≡ ending l.fn.place }

abbrev pub decreases-loop-parent : goal.decreases-loop-parent
decreases-loop-parent l = l.last.level

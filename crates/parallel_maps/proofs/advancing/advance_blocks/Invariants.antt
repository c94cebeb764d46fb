-- The blocks that are advanced so far.
use Rattle.parallel_maps.specs.Lemmas.Moving.{AdvancesUpTo}
use Rattle.parallel_maps.proofs.advancing.advance_blocks.Given as goal

abbrev pub invariant-loop-at : goal.invariant-loop-at
invariant-loop-at l = AdvancesUpTo l.params l.at l.fn.blocks.items l.blocks.items l.all.items

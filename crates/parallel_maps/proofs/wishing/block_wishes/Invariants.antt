-- The wishes of the blocks so far.
use Rattle.std.proofs.Common.{◌≡◌, map, take}
use Rattle.block_fields.specs.Blocks.{BlockState, seen_at}
use Rattle.criteria.specs.Wishes.{criteria_wish}
use Rattle.parallel_maps.proofs.wishing.block_wishes.Given as goal

abbrev pub invariant-loop-block : goal.invariant-loop-block
invariant-loop-block l = l.wishes.items ≡ map (λ (b : BlockState). criteria_wish b.edge l.phase l.criteria (seen_at b) b.place) (take l.block-index l.blocks)

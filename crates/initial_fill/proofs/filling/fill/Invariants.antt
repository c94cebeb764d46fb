-- The roots so far.
use Rattle.std.proofs.Common.{◌≡◌, map, take}
use Rattle.initial_fill.specs.RootBlocks.{root_block}
use Rattle.initial_fill.proofs.filling.fill.Given as goal

abbrev pub invariant-loop-place : goal.invariant-loop-place
invariant-loop-place l = l.blocks.items ≡ map (root_block l.params) (take l.place-index l.place-items)

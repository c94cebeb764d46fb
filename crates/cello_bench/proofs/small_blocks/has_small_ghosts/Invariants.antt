use Rattle.std.proofs.Common.{ℕ, ◌^◌, ◌<◌, ◌≤◌, slice_index}
use Rattle.block_fields.specs.Blocks.{ghosts_of}
use Rattle.cello_bench.proofs.small_blocks.has_small_ghosts.Given as goal

abbrev pub invariant-loop-d : goal.invariant-loop-d
invariant-loop-d l = (d : ℕ) → d < l.d → (i : ℕ) → slice_index (ghosts_of l.block l.field d) i ≤ 2 ^ 42

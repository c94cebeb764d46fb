use Rattle.std.proofs.Common.{ℕ, ◌<◌}
use Rattle.cello_bench.specs.Inputs.{IsSmallField}
use Rattle.cello_bench.proofs.small_blocks.is_small.Given as goal

abbrev pub invariant-loop-field : goal.invariant-loop-field
invariant-loop-field l = (f : ℕ) → f < l.field → IsSmallField l.block f

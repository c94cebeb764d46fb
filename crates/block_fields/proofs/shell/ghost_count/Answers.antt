-- What is left of the proof of this function.
use Rattle.std.proofs.Common.{arith}
use Rattle.block_fields.proofs.ShellSizes.{count-cube, cube-most}
use Rattle.block_fields.proofs.shell.ghost_count.Goals as goal

pub overflow_sub-result : goal.overflow_sub-result
overflow_sub-result c = omega (arith, count-cube c.args.n c.args.depth)

pub returns-clause-count : goal.returns-clause-count
returns-clause-count c = omega (arith, count-cube c.args.n c.args.depth)

pub returns-clause-most : goal.returns-clause-most
returns-clause-most c = omega (arith, cube-most c.args.n c.args.depth c.requires.most c.requires.deepest)

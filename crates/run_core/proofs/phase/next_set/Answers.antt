-- The limit that ends a phase.
use Rattle.std.proofs.Common.{arith, inr}
use Rattle.adapt_core.specs.Problem.{wishes_of}
use Rattle.run_core.proofs.LevelLimits.{blocks-ended}
use Rattle.run_core.proofs.phase.next_set.Goals as goal

pub returns-then-count-limit-clause-ended : goal.returns-then-count-limit-clause-ended
returns-then-count-limit-clause-ended c =
    inr (blocks-ended c.args.params.now c.args.phase c.args.set.now.grid c.args.set.now.places (wishes_of c.args.quiet.now.problem) c.in_ok-levels.levels.items c.deref.result.now
    c.count_after-count.result c.max_blocks-limit.result c.requires.level_limit c.requires.grid c.deref.ensures.value c.in_ok-levels.ensures.least
    c.count_after-count.ensures.count c.max_blocks-limit.ensures.max_blocks (omega (arith, c.if-count-limit.true)))

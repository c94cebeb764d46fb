-- The cycle has the ledger and the totals of the blocks.
use Rattle.std.proofs.Common.{refl}
use Rattle.run_core.specs.Runs.{blocks_state}
use Rattle.cello_top.proofs.Counted.{counted-emit}
use Rattle.cello_top.proofs.QuietRuns.{keeps-cycle}
use Rattle.cello_top.proofs.quiet_run.pass_cycle.Goals as goal

pub returns-clause-keeps : goal.returns-clause-keeps
returns-clause-keeps g c = λ n k.
    let s = c.args.run.now in
    keeps-cycle g.C.Crew.counts s c.done_emit.new.self n _ (blocks_state s.course.parameters c.blocks-blocks.result.now) c.requires.work.step c.done_emit.ensures.next
    (λ told is. c.done_emit.ensures.told told c.blocks-blocks.result.now is c.blocks-blocks.ensures.holds) c.blocks-blocks.ensures.totals refl
    (counted-emit g.C.Crew.counts s c.done_emit.new.self c.requires.work.step c.done_emit.ensures.next) k

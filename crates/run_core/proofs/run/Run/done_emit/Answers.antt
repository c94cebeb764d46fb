-- All that is told of the run was told.
use Rattle.std.proofs.Common.{rules}
use Rattle.run_core.specs.Courses.{course_of}
use Rattle.run_core.proofs.Telling.{told-emitted}
use Rattle.run_core.proofs.run.Run.done_emit.Goals as goal

pub returns-clause-told : goal.returns-clause-told
returns-clause-told g c =
    let run = c.self.inside in
    told-emitted (course_of run.params run.ended run.last g.S.Start.start) run.set run.ledger run.phase run.step c.after_cycle_told-self-inside.result run.stage c.args.self.now c.self.view_is c.requires.step
    (search rules) c.self.invariant.has_ledger

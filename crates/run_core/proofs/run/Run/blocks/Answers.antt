-- The state that the blocks show, and its totals.
use Rattle.std.proofs.Common.{rules}
use Rattle.run_core.specs.Courses.{course_of}
use Rattle.run_core.proofs.Shown.{shown-most, shown-state, shown-totals}
use Rattle.run_core.proofs.run.Run.blocks.Goals as goal

pub returns-clause-state : goal.returns-clause-state
returns-clause-state g c =
    let run = c.self.inside in
    shown-state (course_of run.params run.ended run.last g.S.Start.start) c.self.invariant.limits run.set run.ledger run.phase run.step run.stage c.args.self.now c.self.view_is c.requires.step
    c.self.invariant.has_ledger c.as_slice.result.now (search rules)

pub returns-clause-totals : goal.returns-clause-totals
returns-clause-totals g c =
    let run = c.self.inside in
    shown-totals (course_of run.params run.ended run.last g.S.Start.start) c.self.invariant.limits run.set run.ledger run.phase run.step run.stage c.args.self.now c.self.view_is c.requires.step
    c.self.invariant.has_ledger c.as_slice.result.now (search rules)

pub returns-clause-few : goal.returns-clause-few
returns-clause-few g c =
    let run = c.self.inside in
    shown-most (course_of run.params run.ended run.last g.S.Start.start) c.self.invariant.limits run.set run.ledger run.phase run.step run.stage c.args.self.now c.self.view_is c.requires.step
    c.self.invariant.has_ledger c.as_slice.result.now (search rules)

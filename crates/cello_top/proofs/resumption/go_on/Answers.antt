-- The run stands where the state does.
use Rattle.std.proofs.Common.{Some, ap, subst, sym}
use Rattle.run_core.specs.CourseLimits.{IsCourse}
use Rattle.run_core.specs.Courses.{Course, RunState}
use Rattle.cello_top.proofs.Counted.{none-told}
use Rattle.cello_top.proofs.Resumed.{ends-same, going_on-IsCourse, whole-same}
use Rattle.cello_top.proofs.resumption.go_on.Goals as goal

pub resume-run-requires : goal.resume-run-requires
resume-run-requires g c =
    let from = c.requires.from in
    record {
      grid = from.grid;
      blocks = from.blocks_are;
      state = from.state;
      restored = from.restored;
      together = from.together;
      cycle = from.within;
      until = c.requires.until;
      start = ap (λ (r : RunState). Some r) c.requires.start;
    }

pub report_rest-requires-clause-limits : goal.report_rest-requires-clause-limits
report_rest-requires-clause-limits g c =
    subst (λ (k : Course). IsCourse k) (sym c.resume-run.ensures.course)
    (going_on-IsCourse c.args.state.params c.args.state.cycle c.args.until c.args.state.set c.args.state.blocks.items c.args.state.ledger
    c.domain-limits.ensures.limits c.requires.from c.requires.until)

pub returns-clause-whole : goal.returns-clause-whole
returns-clause-whole g c = whole-same g.C.Crew.counts _ _ _ _ c.args.state.cycle _ _ c.report_rest.result c.len-leaves.ensures.len c.resume-run.ensures.course c.report_rest.ensures.whole

pub returns-clause-ended : goal.returns-clause-ended
returns-clause-ended g c = ends-same _ _ _ _ c.args.state.cycle _ _ c.report_rest.result c.len-leaves.ensures.len c.resume-run.ensures.course c.report_rest.ensures.ended

pub report_rest-requires-clause-none : goal.report_rest-requires-clause-none
report_rest-requires-clause-none g c = none-told c.resume-run.result _ c.resume-run.ensures.step c.resume-run.ensures.phase

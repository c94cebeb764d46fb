-- A phase that ends by a limit, one whose line was written, and one whose line was not.
use Rattle.std.proofs.Common.{refl}
use Rattle.cello_top.proofs.EngineSteps.{phase-part, phase-whole, told-fault}
use Rattle.cello_top.proofs.engine.run_phase.Goals as goal

pub returns-in-Err-clause-ended : goal.returns-in-Err-clause-ended
returns-in-Err-clause-ended g c = λ n before files t.
    told-fault _ c.args.run.now n before _ t c.requires.limits c.requires.stands c.in-Err.fault c.from.result c.from.ensures c.in-Err.ensures.limit

pub returns-in-Ok-write_told_phase-clause-told : goal.returns-in-Ok-write_told_phase-clause-told
returns-in-Ok-write_told_phase-clause-told g c = λ n before files t.
    phase-whole _ c.args.run.now c.drive_phase.new.run n before _ _ t c.in-Ok.ensures.same c.in-Ok.ensures.told c.set.result.now c.phase.result c.len.result
    c.phase.ensures.phase c.len.ensures.len c.set.ensures.set _ (c.in-Ok.ensures.counted n t.counted) (c.in-Ok-write_told_phase.ensures.acted c.args.run.now.course.parameters files)

pub returns-in-Err-write_told_phase-clause-ended : goal.returns-in-Err-write_told_phase-clause-ended
returns-in-Err-write_told_phase-clause-ended g c = λ n before files t.
    phase-part _ c.args.run.now c.drive_phase.new.run n before _ _ t c.in-Ok.ensures.same c.in-Ok.ensures.told c.set.result.now c.phase.result c.len.result
    c.phase.ensures.phase c.len.ensures.len c.set.ensures.set c.requires.limits c.set.ensures.stands _ refl (c.in-Err-write_told_phase.ensures.acted c.args.run.now.course.parameters files)

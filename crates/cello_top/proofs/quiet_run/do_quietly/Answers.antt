-- What each work keeps.
use Rattle.std.proofs.Common.{subst}
use Rattle.run_core.specs.declared.work.Work.{Work}
use Rattle.run_core.specs.Works.{IsWork}
use Rattle.cello_top.proofs.QuietRuns.{cut-by, ends-counted, keeps-adapt, keeps-on, keeps-zero}
use Rattle.cello_top.proofs.quiet_run.do_quietly.Goals as goal

pub returns-in-Ok-clause-goes : goal.returns-in-Ok-clause-goes
returns-in-Ok-clause-goes g c = λ n k.
    keeps-on g.C.Crew.counts c.args.run.now c.refresh_blocks.new.run n c.in-Ok.ensures.told c.in-Ok.ensures.counted c.in-Ok.ensures.goes_on k

pub returns-in-Ok-give_wishes-clause-goes : goal.returns-in-Ok-give_wishes-clause-goes
returns-in-Ok-give_wishes-clause-goes g c = λ n k.
    keeps-on g.C.Crew.counts c.args.run.now c.give_wishes.new.run n c.in-Ok-give_wishes.ensures.told c.in-Ok-give_wishes.ensures.counted c.in-Ok-give_wishes.ensures.goes_on k

pub returns-in-Ok-drive_phase-clause-goes : goal.returns-in-Ok-drive_phase-clause-goes
returns-in-Ok-drive_phase-clause-goes g c = λ n k.
    keeps-adapt g.C.Crew.counts c.args.run.now c.drive_phase.new.run n _ _ c.in-Ok-drive_phase.ensures.told c.in-Ok-drive_phase.ensures.counted c.in-Ok-drive_phase.ensures.goes_on k

pub returns-in-Err-drive_phase-clause-cut : goal.returns-in-Err-drive_phase-clause-cut
returns-in-Err-drive_phase-clause-cut g c = λ n k. cut-by g.C.Crew.counts c.args.run.now n c.in-Err-drive_phase.fault c.in-Err-drive_phase.ensures.limit k

pub returns-in-Ok-give_advanced-clause-goes : goal.returns-in-Ok-give_advanced-clause-goes
returns-in-Ok-give_advanced-clause-goes g c = λ n k.
    keeps-on g.C.Crew.counts c.args.run.now c.give_advanced.new.run n c.in-Ok-give_advanced.ensures.told c.in-Ok-give_advanced.ensures.counted c.in-Ok-give_advanced.ensures.goes_on k

pub returns-in-Ok-fix_fluxes-clause-goes : goal.returns-in-Ok-fix_fluxes-clause-goes
returns-in-Ok-fix_fluxes-clause-goes g c = λ n k.
    keeps-on g.C.Crew.counts c.args.run.now c.fix_fluxes.new.run n c.in-Ok-fix_fluxes.ensures.told c.in-Ok-fix_fluxes.ensures.counted c.in-Ok-fix_fluxes.ensures.goes_on k

pub returns-in-Emit-clause-goes : goal.returns-in-Emit-clause-goes
returns-in-Emit-clause-goes g c = λ n k. keeps-zero g.C.Crew.counts c.pass_cycle.new.run n (c.pass_cycle.ensures.keeps n k)

pub returns-in-Ended-clause-goes : goal.returns-in-Ended-clause-goes
returns-in-Ended-clause-goes g c = λ n k. ends-counted g.C.Crew.counts c.args.run.now n (subst (λ (w : Work). IsWork c.args.run.now w) c.in-Ended.is c.requires.work) k

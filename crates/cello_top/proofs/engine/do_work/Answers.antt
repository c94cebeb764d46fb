-- Each work that writes nothing, and each that writes.
use Rattle.std.proofs.Common.{refl, ap, subst}
use Rattle.leaf_set.specs.Tiling.{Tiling}
use Rattle.run_core.specs.declared.work.Work.{Work}
use Rattle.run_core.specs.Works.{IsWork}
use Rattle.cello_top.specs.Lemmas.CommandSteps.{running_failed}
use Rattle.cello_top.proofs.EngineSteps.{end-part, end-whole, told-memory, told-none, told-same}
use Rattle.cello_top.proofs.engine.do_work.Goals as goal

pub returns-in-Ok-clause-goes : goal.returns-in-Ok-clause-goes
returns-in-Ok-clause-goes g c = λ n before t.
    told-none _ c.refresh_blocks.new.run n before _
    (told-same _ c.args.run.now n before _ t c.refresh_blocks.new.run c.in-Ok.ensures.same c.in-Ok.ensures.told c.in-Ok.ensures.counted)

pub returns-in-Err-clause-ended : goal.returns-in-Err-clause-ended
returns-in-Err-clause-ended g c = λ n before t. told-memory _ c.args.run.now n before _ t c.requires.limits c.requires.stands _ refl

pub returns-in-Ok-give_wishes-clause-goes : goal.returns-in-Ok-give_wishes-clause-goes
returns-in-Ok-give_wishes-clause-goes g c = λ n before t.
    told-none _ c.give_wishes.new.run n before _
    (told-same _ c.args.run.now n before _ t c.give_wishes.new.run c.in-Ok-give_wishes.ensures.same c.in-Ok-give_wishes.ensures.told c.in-Ok-give_wishes.ensures.counted)

pub returns-in-Err-give_wishes-clause-ended : goal.returns-in-Err-give_wishes-clause-ended
returns-in-Err-give_wishes-clause-ended g c = λ n before t. told-memory _ c.args.run.now n before _ t c.requires.limits c.requires.stands _ refl

pub returns-in-Ok-run_phase-clause-goes : goal.returns-in-Ok-run_phase-clause-goes
returns-in-Ok-run_phase-clause-goes g c = λ n before t. c.in-Ok-run_phase.ensures.told n before _ t

pub returns-in-Err-run_phase-clause-ended : goal.returns-in-Err-run_phase-clause-ended
returns-in-Err-run_phase-clause-ended g c = λ n before t. c.in-Err-run_phase.ensures.ended n before _ t

pub returns-in-Ok-give_advanced-clause-goes : goal.returns-in-Ok-give_advanced-clause-goes
returns-in-Ok-give_advanced-clause-goes g c = λ n before t.
    told-none _ c.give_advanced.new.run n before _
    (told-same _ c.args.run.now n before _ t c.give_advanced.new.run c.in-Ok-give_advanced.ensures.same c.in-Ok-give_advanced.ensures.told c.in-Ok-give_advanced.ensures.counted)

pub returns-in-Err-give_advanced-clause-ended : goal.returns-in-Err-give_advanced-clause-ended
returns-in-Err-give_advanced-clause-ended g c = λ n before t. told-memory _ c.args.run.now n before _ t c.requires.limits c.requires.stands _ refl

pub returns-in-Ok-fix_fluxes-clause-goes : goal.returns-in-Ok-fix_fluxes-clause-goes
returns-in-Ok-fix_fluxes-clause-goes g c = λ n before t.
    told-none _ c.fix_fluxes.new.run n before _
    (told-same _ c.args.run.now n before _ t c.fix_fluxes.new.run c.in-Ok-fix_fluxes.ensures.same c.in-Ok-fix_fluxes.ensures.told c.in-Ok-fix_fluxes.ensures.counted)

pub returns-in-Err-fix_fluxes-clause-ended : goal.returns-in-Err-fix_fluxes-clause-ended
returns-in-Err-fix_fluxes-clause-ended g c = λ n before t. told-memory _ c.args.run.now n before _ t c.requires.limits c.requires.stands _ refl

pub returns-in-Ok-tell_cycle-clause-goes : goal.returns-in-Ok-tell_cycle-clause-goes
returns-in-Ok-tell_cycle-clause-goes g c = λ n before t. told-none _ c.tell_cycle.new.run n before _ (c.in-Ok-tell_cycle.ensures.told n before t)

pub returns-in-Err-tell_cycle-clause-ended : goal.returns-in-Err-tell_cycle-clause-ended
returns-in-Err-tell_cycle-clause-ended g c = λ n before t. running_failed refl (c.in-Err-tell_cycle.ensures.part n before t)

pub returns-in-Ok-write_end_list-clause-goes : goal.returns-in-Ok-write_end_list-clause-goes
returns-in-Ok-write_end_list-clause-goes g c = λ n before t.
    end-whole _ c.args.run.now n before _ t (subst (λ (w : Work). IsWork c.args.run.now w) c.in-Ended.is c.requires.work) c.set.result.now.places
    (ap (λ (x : Tiling). x.places) c.set.ensures.set) _ (c.in-Ok-write_end_list.ensures.acted _)

pub returns-in-Err-write_end_list-clause-ended : goal.returns-in-Err-write_end_list-clause-ended
returns-in-Err-write_end_list-clause-ended g c = λ n before t.
    end-part _ c.args.run.now n before _ t (subst (λ (w : Work). IsWork c.args.run.now w) c.in-Ended.is c.requires.work) c.set.result.now.places
    (ap (λ (x : Tiling). x.places) c.set.ensures.set) _ _ refl (c.in-Err-write_end_list.ensures.acted _)

-- Reading that fails, and then each command.
use Rattle.std.proofs.Common.{refl, subst}
use Rattle.std.proofs.lemmas.Result.{IfOk-weaker, IfErr-weaker}
use Rattle.cello_top.specs.Lemmas.CommandSteps.{IsOf}
use Rattle.cello_top.proofs.CommandEnds.{IfErr-from, of_command, reading-ends-so, text-written, text-ends, run-written, run-ends-so, run-not-read, run-unwritten}
use Rattle.cello_top.proofs.commands.carry_out.Goals as goal

pub returns-in_err-params-clause-ended : goal.returns-in_err-params-clause-ended
returns-in_err-params-clause-ended g c = λ words is.
    IfErr-from _ _ c.from_residual.result c.from_residual.ensures.1
    (λ fault same. reading-ends-so words _ _ _ _ _ (of_command c.args.command words is) refl fault _ same c.in_err-params.ensures.ended)

pub returns-in-Check-clause-done : goal.returns-in-Check-clause-done
returns-in-Check-clause-done g c = λ words is.
    text-written words _ _ _ _ _ c.in_ok-params.params c.in_ok-params.ensures.found (subst (λ command. IsOf command words) c.in-Check.is is) c.write_text.result
    (c.write_text.ensures.acted _)

pub returns-in-Check-clause-ended : goal.returns-in-Check-clause-ended
returns-in-Check-clause-ended g c = λ words is.
    text-ends words _ _ _ _ _ c.in_ok-params.params c.in_ok-params.ensures.found (subst (λ command. IsOf command words) c.in-Check.is is) c.write_text.result
    c.write_text.ensures.ended (c.write_text.ensures.acted _)

pub returns-in-Solo-clause-done : goal.returns-in-Solo-clause-done
returns-in-Solo-clause-done g c = λ words is.
    IfOk-weaker c.run_parameters.result _ _
    (λ handled h. run-written words _ _ _ _ _ c.in_ok-params.params c.in_ok-params.ensures.found g.C.Crew.counts handled (subst (λ command. IsOf command words) c.in-Solo.is is) h)
    c.run_parameters.ensures.whole

pub returns-in-Solo-clause-ended : goal.returns-in-Solo-clause-ended
returns-in-Solo-clause-ended g c = λ words is.
    IfErr-weaker c.run_parameters.result _ _
    (λ fault h. run-ends-so words _ _ _ _ _ c.in_ok-params.params c.in_ok-params.ensures.found (subst (λ command. IsOf command words) c.in-Solo.is is) fault h)
    c.run_parameters.ensures.ended

pub returns-in-Solo-clause-unwritten : goal.returns-in-Solo-clause-unwritten
returns-in-Solo-clause-unwritten g c = run-unwritten _ _ _ _ _ c.run_parameters.result c.run_parameters.ensures.ended

pub returns-in-Solo-clause-unfiled : goal.returns-in-Solo-clause-unfiled
returns-in-Solo-clause-unfiled g c = run-unwritten _ _ _ _ _ c.run_parameters.result c.run_parameters.ensures.ended

pub returns-in-Solo-clause-read_cause : goal.returns-in-Solo-clause-read_cause
returns-in-Solo-clause-read_cause g c = λ e. absurd (run-not-read _ _ _ _ c.run_parameters.result c.run_parameters.ensures.ended e)

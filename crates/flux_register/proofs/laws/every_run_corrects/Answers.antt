-- From the laws of the phase, and what stands in each state and at rest.
use Rattle.std.proofs.Common.{List, subst}
use Rattle.phase_core.specs.declared.envelope.Envelope.{Envelope}
use Rattle.flux_register.specs.declared.flux_msg.FluxMsg.{FluxMsg}
use Rattle.flux_register.specs.Problem.{FluxFixHolds}
use Rattle.flux_register.proofs.EachState.{each_state}
use Rattle.flux_register.proofs.Rest.{rest_advanced}
use Rattle.flux_register.proofs.laws.every_run_corrects.Goals as goal

pub returns-clause-state : goal.returns-clause-state
returns-clause-state c p cells t events first runs =
    each_state p t.cells t.flight (c.every_run_from_the_start_keeps.ensures.holds p cells t events first runs)

pub returns-clause-advanced : goal.returns-clause-advanced
returns-clause-advanced c p cells t events first runs quiet =
    rest_advanced p t.cells (subst (λ (flight : List (Envelope FluxMsg)). FluxFixHolds p t.cells flight) quiet (c.every_run_from_the_start_keeps.ensures.holds p cells t events first runs))

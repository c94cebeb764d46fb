-- From the laws of the phase, and what stands in each state and at rest.
use Rattle.std.proofs.Common.{List, subst}
use Rattle.phase_core.specs.declared.envelope.Envelope.{Envelope}
use Rattle.refresh_phase.specs.declared.refresh_msg.RefreshMsg.{RefreshMsg}
use Rattle.refresh_phase.specs.Problem.{RefreshHolds}
use Rattle.refresh_phase.proofs.EachState.{each_state}
use Rattle.refresh_phase.proofs.Rest.{rest_refreshed}
use Rattle.refresh_phase.proofs.laws.every_run_refreshes.Goals as goal

pub returns-clause-state : goal.returns-clause-state
returns-clause-state c p cells t events first runs =
    each_state p t.cells t.flight (c.every_run_from_the_start_keeps.ensures.holds p cells t events first runs)

pub returns-clause-refreshed : goal.returns-clause-refreshed
returns-clause-refreshed c p cells t events first runs quiet =
    rest_refreshed p t.cells (subst (λ (flight : List (Envelope RefreshMsg)). RefreshHolds p t.cells flight) quiet (c.every_run_from_the_start_keeps.ensures.holds p cells t events first runs))

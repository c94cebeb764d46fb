-- What the invariant says, and what it says at rest.
use Rattle.refresh_phase.proofs.EachState.{each_state}
use Rattle.refresh_phase.proofs.Rest.{rest_refreshed}
use Rattle.refresh_phase.proofs.laws.every_state_of_a_run.Goals as goal

pub returns-clause-state : goal.returns-clause-state
returns-clause-state c p cells flight holds = each_state p cells flight holds

pub returns-clause-refreshed : goal.returns-clause-refreshed
returns-clause-refreshed c p cells holds = rest_refreshed p cells holds

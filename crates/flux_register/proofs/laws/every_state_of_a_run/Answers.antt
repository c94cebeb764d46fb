-- What the invariant says, and what it says at rest.
use Rattle.flux_register.proofs.EachState.{each_state}
use Rattle.flux_register.proofs.Rest.{rest_advanced}
use Rattle.flux_register.proofs.laws.every_state_of_a_run.Goals as goal

pub returns-clause-state : goal.returns-clause-state
returns-clause-state c p cells flight holds = each_state p cells flight holds

pub returns-clause-advanced : goal.returns-clause-advanced
returns-clause-advanced c p cells holds = rest_advanced p cells holds

-- From what the invariant says of single messages.
use Rattle.owed_phase.specs.Lemmas.States.{in_three_states, starts_in_flight}
use Rattle.owed_phase.proofs.laws.each_message_is_in_one_state.Goals as goal

pub returns-clause-three : goal.returns-clause-three
returns-clause-three g c parts cells flight owing = in_three_states g.P.Owes.plan parts cells flight owing

pub returns-clause-starts : goal.returns-clause-starts
returns-clause-starts g c parts cells flight is owing = starts_in_flight g.P.Owes.plan parts cells flight owing is

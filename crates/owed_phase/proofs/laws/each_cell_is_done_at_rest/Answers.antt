-- From what stands at rest.
use Rattle.owed_phase.specs.Lemmas.States.{at_rest}
use Rattle.owed_phase.proofs.laws.each_cell_is_done_at_rest.Goals as goal

pub returns : goal.returns
returns g c = record { done = λ parts cells is settled owing. at_rest g.P.Owes.plan parts is settled cells owing }

-- The law, from its lemma.
use Rattle.leaf_set.proofs.OneFault.{no_fault, one_fault}
use Rattle.leaf_set.proofs.laws.faults_of_places.Goals as goal

pub returns-clause-no_mesh : goal.returns-clause-no_mesh
returns-clause-no_mesh c = no_fault

pub returns-clause-one_fault : goal.returns-clause-one_fault
returns-clause-one_fault c = one_fault

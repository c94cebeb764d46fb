-- The law, from its lemma.
use Rattle.criteria.proofs.MeshWishes.{wishes-wishes_in}
use Rattle.criteria.proofs.laws.wishes_of_a_mesh.Goals as goal

pub returns : goal.returns
returns c = record { wishes = wishes-wishes_in }

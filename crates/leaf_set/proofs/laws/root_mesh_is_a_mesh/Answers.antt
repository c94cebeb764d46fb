-- The law, from its lemma.
use Rattle.leaf_set.proofs.RootMeshes.{root_mesh-IsMesh, root_mesh-level, root_mesh-IsBalanced}
use Rattle.leaf_set.proofs.laws.root_mesh_is_a_mesh.Goals as goal

pub returns-clause-mesh : goal.returns-clause-mesh
returns-clause-mesh c = root_mesh-IsMesh

pub returns-clause-level : goal.returns-clause-level
returns-clause-level c = root_mesh-level

pub returns-clause-balanced : goal.returns-clause-balanced
returns-clause-balanced c = root_mesh-IsBalanced

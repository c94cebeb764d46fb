-- The law, from its lemma.
use Rattle.leaf_set.proofs.NextMeshes.{next_mesh-IsMesh}
use Rattle.leaf_set.proofs.Origins.{Origin-next_mesh}
use Rattle.leaf_set.proofs.laws.next_mesh_is_a_mesh.Goals as goal

pub returns-clause-mesh : goal.returns-clause-mesh
returns-clause-mesh c grid mesh wishes levels g m s = next_mesh-IsMesh grid mesh levels g m s.one_each s.range s.lone s.siblings

pub returns-clause-origins : goal.returns-clause-origins
returns-clause-origins c grid mesh wishes levels p s h = Origin-next_mesh grid mesh levels s.range s.lone s.siblings p h

-- What is left of the proof of this function.
use Rattle.leaf_set.proofs.MeshLaws.{IsMesh-HasDistinctLeaves}
use Rattle.leaf_set.proofs.set.LeafSet.of.Goals as goal

pub indexed-requires : goal.indexed-requires
indexed-requires c = IsMesh-HasDistinctLeaves _ _ c.requires.tiles.domain c.requires.tiles.mesh

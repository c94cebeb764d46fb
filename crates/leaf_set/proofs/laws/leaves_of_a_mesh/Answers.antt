-- The law, from its lemma.
use Rattle.leaf_set.proofs.Leaves.{find_leaf}
use Rattle.leaf_set.proofs.LeafCounts.{length-IsMesh, length-IsMesh_limit}
use Rattle.leaf_set.proofs.MeshLaws.{IsMesh-HasDistinctLeaves, IsMesh-HasLeavesInOrder, IsMesh-HasLeavesApart, IsMesh-HasOneLeafOver, IsMesh-HasLeafNear, IsMesh-HasLastLeafOver}
use Rattle.leaf_set.proofs.laws.leaves_of_a_mesh.Goals as goal

pub returns-clause-distinct : goal.returns-clause-distinct
returns-clause-distinct c = IsMesh-HasDistinctLeaves

pub returns-clause-in_order : goal.returns-clause-in_order
returns-clause-in_order c = IsMesh-HasLeavesInOrder

pub returns-clause-apart : goal.returns-clause-apart
returns-clause-apart c = IsMesh-HasLeavesApart

pub returns-clause-one_over : goal.returns-clause-one_over
returns-clause-one_over c = IsMesh-HasOneLeafOver

pub returns-clause-near : goal.returns-clause-near
returns-clause-near c = IsMesh-HasLeafNear

pub returns-clause-last_over : goal.returns-clause-last_over
returns-clause-last_over c = IsMesh-HasLastLeafOver

pub returns-clause-decided : goal.returns-clause-decided
returns-clause-decided c = find_leaf

pub returns-clause-count : goal.returns-clause-count
returns-clause-count c = length-IsMesh

pub returns-clause-limit : goal.returns-clause-limit
returns-clause-limit c = length-IsMesh_limit

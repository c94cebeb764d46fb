-- What is left of the proof of this function.
use Rattle.std.proofs.Common.{◌^◌, ◌≤◌, length, subst}
use Rattle.leaf_set.proofs.LeafCounts.{length-IsMesh_limit}
use Rattle.leaf_set.proofs.set.LeafSet.len.Goals as goal

pub returns-clause-limit : goal.returns-clause-limit
returns-clause-limit c =
    subst (λ t. length t.places ≤ 2 ^ 30) c.self.view_is (length-IsMesh_limit _ _ c.self.invariant.0.domain c.self.invariant.0.mesh)

-- The law, from its lemma.
use Rattle.leaf_set.proofs.Balance.{next_mesh-IsBalanced}
use Rattle.leaf_set.proofs.LevelChanges.{Origin-near, Overlap-DifferByAtMostOne}
use Rattle.leaf_set.proofs.Origins.{Origin-next_mesh}
use Rattle.leaf_set.proofs.level_laws.next_mesh_is_balanced.Goals as goal

pub returns-clause-balanced : goal.returns-clause-balanced
returns-clause-balanced c grid mesh wishes levels g m s = next_mesh-IsBalanced grid mesh levels g m s.range s.jump s.lone s.siblings

pub returns-clause-near : goal.returns-clause-near
returns-clause-near c grid mesh wishes levels p s h = Origin-near mesh levels p (Origin-next_mesh grid mesh levels s.range s.lone s.siblings p h)

pub returns-clause-changes_by_at_most_one : goal.returns-clause-changes_by_at_most_one
returns-clause-changes_by_at_most_one c grid mesh wishes levels a p g m s h k =
    Overlap-DifferByAtMostOne grid mesh levels g m h.0 a p h.1 (Origin-next_mesh grid mesh levels s.range s.lone s.siblings p k)

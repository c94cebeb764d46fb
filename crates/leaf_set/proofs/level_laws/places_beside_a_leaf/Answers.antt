-- The law, from its lemma.
use Rattle.leaf_set.proofs.MeetingLeaves.{touching-IsCoveredBeside}
use Rattle.leaf_set.proofs.level_laws.places_beside_a_leaf.Goals as goal

pub returns : goal.returns
returns c = record { covered = touching-IsCoveredBeside }

-- The law, from its lemma.
use Rattle.block_index.proofs.Covering.{Covers-from_test, test-from_Covers}
use Rattle.block_index.proofs.Descendants.{covers-between}
use Rattle.block_index.proofs.laws.contained_places_stand_together.Goals as goal

pub returns : goal.returns
returns c = record {
  together = λ a b d a_limits b_limits d_limits test after before.
      test-from_Covers a b (covers-between a b d a_limits b_limits d_limits (Covers-from_test a d test) after before);
}

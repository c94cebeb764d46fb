-- The law, from its lemma.
use Rattle.block_index.proofs.Covering.{Covers-from_test}
use Rattle.block_index.proofs.Ranks.{IsBefore-covers, finer-covers}
use Rattle.block_index.proofs.laws.ancestors_stand_first.Goals as goal

pub returns : goal.returns
returns c = record {
  before = λ a b limits test apart.
      let h = Covers-from_test a b test in
      IsBefore-covers a b limits.level h (finer-covers a b h apart);
}

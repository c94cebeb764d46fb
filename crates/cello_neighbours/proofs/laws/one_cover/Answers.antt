-- The law, from its lemma.
use Rattle.cello_neighbours.proofs.CoverLaws.{IsCover-one}
use Rattle.cello_neighbours.proofs.laws.one_cover.Goals as goal

pub returns : goal.returns
returns c = record { one = λ t b d cover other h. IsCover-one t.grid t.places h.domain h.mesh b d cover other }

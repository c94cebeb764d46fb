-- The law, from its lemma.
use Rattle.cello_neighbours.proofs.CoverLaws.{Touches-IsCover}
use Rattle.cello_neighbours.proofs.laws.covers_touch.Goals as goal

pub returns : goal.returns
returns c = record { touch = λ t b j a p d cover h. Touches-IsCover t.grid t.places h.domain h.mesh b j a p d cover }

use Rattle.ghost_pieces.specs.Lemmas.Rows.{ArePlanes, box_of_runs}
use Rattle.ghost_pieces.proofs.pasting.paste_planes.Given as goal

abbrev pub invariant-loop-k : goal.invariant-loop-k
invariant-loop-k l =
    ArePlanes l.spot.x.length l.spot.y.length l.k (box_of_runs l.spot.x.first l.spot.x.count l.spot.y.first l.spot.y.count l.spot.z.first l.spot.z.count) l.amounts l.initial.list l.list

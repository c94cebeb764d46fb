use Rattle.ghost_pieces.specs.Lemmas.Fills.{FillsPlanes, box_sample}
use Rattle.ghost_pieces.proofs.filled_boxes.fill_planes.Given as goal

abbrev pub invariant-loop-k : goal.invariant-loop-k
invariant-loop-k l =
    FillsPlanes (box_sample l.n l.level l.from l.q l.parts.x.start l.parts.x.runs l.parts.y.start l.parts.y.runs l.parts.z.start l.parts.z.runs) l.parts.x.count l.parts.y.count l.k l.fn.out l.out

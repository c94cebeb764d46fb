use Rattle.ghost_pieces.specs.Sent.{sent}
use Rattle.ghost_pieces.specs.Lemmas.Fills.{FillsPlane}
use Rattle.ghost_pieces.specs.Lemmas.Parts.{further}
use Rattle.ghost_pieces.proofs.filled_boxes.fill_plane.Given as goal

abbrev pub invariant-loop-j : goal.invariant-loop-j
invariant-loop-j l =
    FillsPlane (λ i j. sent l.n l.level l.from l.q (record { x = further l.x.start l.x.runs i; y = further l.y.start l.y.runs j; z = l.z })) l.at l.x.count l.j l.fn.out l.out

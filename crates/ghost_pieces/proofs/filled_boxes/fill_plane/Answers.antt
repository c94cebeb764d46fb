use Rattle.std.proofs.Common.{ap, ◌∙◌}
use Rattle.ghost_pieces.specs.Sent.{sent}
use Rattle.ghost_pieces.specs.Lemmas.Parts.{further}
use Rattle.ghost_pieces.proofs.FillSteps.{row_filled}
use Rattle.ghost_pieces.proofs.filled_boxes.fill_plane.Goals as goal

pub loop-j-preserved : goal.loop-j-preserved
loop-j-preserved c =
    let a = c.args in
    let e = c.fill_row.ensures in
    row_filled (λ i j. sent a.n a.level a.from a.q.now (record { x = further a.x.start a.x.runs i; y = further a.y.start a.y.runs j; z = a.z })) a.at a.x.count c.loop-j.j a.out.now c.loop-j.out c.fill_row.new.out c.loop-j.invariant e.long
    (λ i h. e.row i h ∙ ap (λ u. sent a.n a.level a.from a.q.now (record { x = further a.x.start a.x.runs i; y = u; z = a.z })) c.offset_at.ensures.offset)
    e.earlier

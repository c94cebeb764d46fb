use Rattle.std.proofs.Common.{◌≡◌, ◌+◌, ◌*◌, ◌/◌, ◌<◌, ap, sym, ◌∙◌, subst, arith}
use Rattle.block_fields.specs.Blocks.{BlockState}
use Rattle.advect.specs.FluxPieces.{corrected}
use Rattle.advect.specs.Lemmas.Corrections.{CorrectsBetween, rank}
use Rattle.advect.proofs.Corrected.{corrects-one}
use Rattle.advect.proofs.correcting.correct_cell.Goals as goal

pub returns : goal.returns
returns c =
    let p = c.args.piece.now in
    let s = c.spot_behind-spot in
    let h = p.edge / 2 in
    let f = c.args.field in
    let r = (f * h + c.args.j) * h + c.args.i in
    let hx = subst (λ t. s.result.x < t) c.requires.same_edge s.ensures.x in
    let hy = subst (λ t. s.result.y < t) c.requires.same_edge s.ensures.y in
    let hz = subst (λ t. s.result.z < t) c.requires.same_edge s.ensures.z in
    let at : rank p f s.result.x s.result.y s.result.z ≡ r = (λ t. (f * h + s.ensures.second t) * h + s.ensures.first t) in
    let is = c.corrected_amount-amount.ensures.corrected ∙ ap (corrected c.args.faces.now p f s.result.x s.result.y s.result.z) c.amount-q.ensures.amount in
    record {
      corrects = subst (λ (b : BlockState). CorrectsBetween c.args.faces.now p r (r + 1) c.args.block.now b) (sym c.set_amount.ensures.one_cell)
          (corrects-one c.args.faces.now p (omega (arith, c.requires.column)) c.args.block.now c.amount-q.ensures.limits f s.result.x s.result.y s.result.z c.corrected_amount-amount.result c.requires.field hx hy hz s.ensures.behind is r at);
    }

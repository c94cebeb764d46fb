use Rattle.std.proofs.Common.{ℕ, ◌++◌, ap, ◌∙◌}
use Rattle.ghost_pieces.specs.Lemmas.Counts.{count_at, plane_pieces}
use Rattle.ghost_pieces.proofs.SizedPieces.{flat-next}
use Rattle.ghost_pieces.proofs.owing.add_reached.Goals as goal

pub loop-z-preserved : goal.loop-z-preserved
loop-z-preserved c =
    let p = c.args.pair.now in
    let r = c.args.reach.now in
    let x = count_at r.x.before r.x.own r.x.after in
    let y = count_at r.y.before r.y.own r.y.after in
    let plane = λ (k : ℕ). plane_pieces p.fields p.to p.receiver p.from p.sender x y (count_at r.z.before r.z.own r.z.after k) k in
    let k = c.loop-z.z in
    c.in_ok-add_plane.ensures.added
    ∙ ap (λ u. c.loop-z.found.items ++ plane_pieces p.fields p.to p.receiver p.from p.sender x y u k) c.at.ensures.count
    ∙ ap (λ u. u ++ plane k) c.loop-z.invariant
    ∙ flat-next c.args.found.now.items plane k

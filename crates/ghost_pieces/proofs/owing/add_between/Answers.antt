use Rattle.std.proofs.Common.{◌*◌, ◌^◌, ◌++◌, ap, ◌∙◌}
use Rattle.ghost_pieces.specs.Boxes.{span}
use Rattle.ghost_pieces.specs.Lemmas.Counts.{count_at}
use Rattle.ghost_pieces.proofs.SizedPieces.{count-at, counted}
use Rattle.ghost_pieces.proofs.owing.add_between.Goals as goal

pub returns : goal.returns
returns c =
    let a = c.args in
    let g = a.domain.now in
    let b = a.receiver in
    let s = a.sender in
    let r = c.reach_of-reach.result in
    let w = span a.n b.level s.level in
    let all = counted g a.n a.depth a.fields a.j b a.i s (count_at r.x.before r.x.own r.x.after) (count_at r.y.before r.y.own r.y.after) (count_at r.z.before r.z.own r.z.after)
    (count-at a.n a.depth (g.trees_x * 2 ^ b.level) g.wraps_x b.x w s.x r.x.before r.x.own r.x.after c.reach_of-reach.ensures.x)
    (count-at a.n a.depth (g.trees_y * 2 ^ b.level) g.wraps_y b.y w s.y r.y.before r.y.own r.y.after c.reach_of-reach.ensures.y)
    (count-at a.n a.depth (g.trees_z * 2 ^ b.level) g.wraps_z b.z w s.z r.z.before r.z.own r.z.after c.reach_of-reach.ensures.z) in
    record { added = c.in_ok-add_reached.ensures.added ∙ ap (λ u. a.found.now.items ++ u) all }

use Rattle.std.proofs.Common.{◌≡◌, ◌+◌, ◌*◌, subst, arith}
use Rattle.ghost_pieces.specs.Sent.{sent}
use Rattle.ghost_pieces.specs.Lemmas.Fills.{FillsPlane, FillsPlanes, box_sample}
use Rattle.ghost_pieces.specs.Lemmas.Parts.{further}
use Rattle.ghost_pieces.proofs.FillSteps.{box_filled, plane_filled}
use Rattle.ghost_pieces.proofs.RowWrites.{rows_room}
use Rattle.ghost_pieces.proofs.filled_boxes.fill_planes.Goals as goal

pub fill_plane-requires-clause-room : goal.fill_plane-requires-clause-room
fill_plane-requires-clause-room c j h =
    let p = c.args.parts.now in
    let r = rows_room p.x.count p.y.count p.z.count j c.loop-k.k h c.loop-k-test.true in
    let e : c.loop-k.k * p.y.count * p.x.count + j * p.x.count ≡ (c.loop-k.k * p.y.count + j) * p.x.count = omega arith in
    omega (arith, c.requires.size, c.loop-k.invariant.long)

pub loop-k-preserved : goal.loop-k-preserved
loop-k-preserved c =
    let a = c.args in
    let p = a.parts.now in
    let k = c.loop-k.k in
    plane_filled (box_sample a.n a.level a.from a.q.now p.x.start p.x.runs p.y.start p.y.runs p.z.start p.z.runs) p.x.count p.y.count k a.out.now c.loop-k.out c.fill_plane.new.out c.loop-k.invariant
    (subst (λ u. FillsPlane (λ i j. sent a.n a.level a.from a.q.now (record { x = further p.x.start p.x.runs i; y = further p.y.start p.y.runs j; z = u })) (k * p.y.count * p.x.count) p.x.count p.y.count c.loop-k.out c.fill_plane.new.out) c.offset_at.ensures.offset c.fill_plane.ensures.plane)

pub returns : goal.returns
returns c =
    let a = c.args in
    let p = a.parts.now in
    let g = box_sample a.n a.level a.from a.q.now p.x.start p.x.runs p.y.start p.y.runs p.z.start p.z.runs in
    let e : c.loop-k.k ≡ p.z.count = omega (arith, c.loop-k-test.false, c.loop-k.auto.k-end) in
    record { box_amounts = box_filled g p.x.count p.y.count p.z.count a.out.now c.loop-k.out c.requires.size (subst (λ u. FillsPlanes g p.x.count p.y.count u a.out.now c.loop-k.out) e c.loop-k.invariant) }

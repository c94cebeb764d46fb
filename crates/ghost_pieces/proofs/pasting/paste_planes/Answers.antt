use Rattle.std.proofs.Common.{◌≡◌, ◌+◌, ◌*◌, arith}
use Rattle.ghost_pieces.specs.Lemmas.Rows.{box_of_runs}
use Rattle.ghost_pieces.proofs.RowWrites.{planes_more, rows_room}
use Rattle.ghost_pieces.proofs.pasting.paste_planes.Goals as goal

pub paste_plane-requires-clause-at : goal.paste_plane-requires-clause-at
paste_plane-requires-clause-at c y h =
    let x = c.args.spot.now.x in
    let v = c.args.spot.now.y in
    let z = c.args.spot.now.z in
    let k = c.loop-k.k in
    let r = rows_room x.length v.length z.length (v.first + y) (z.first + k) (omega (arith, c.requires.y)) (omega (arith, c.requires.z, c.loop-k-test.true)) in
    let e : ((z.first + k) * v.length + v.first) * x.length + y * x.length ≡ ((z.first + k) * v.length + (v.first + y)) * x.length = omega arith in
    omega (arith, c.requires.x, c.requires.list, c.loop-k.invariant.long)

pub paste_plane-requires-clause-from : goal.paste_plane-requires-clause-from
paste_plane-requires-clause-from c y h =
    let x = c.args.spot.now.x in
    let v = c.args.spot.now.y in
    let z = c.args.spot.now.z in
    let k = c.loop-k.k in
    let r = rows_room x.count v.count z.count y k h c.loop-k-test.true in
    let e : k * v.count * x.count + y * x.count ≡ (k * v.count + y) * x.count = omega arith in
    omega (arith, c.requires.amounts)

pub loop-k-preserved : goal.loop-k-preserved
loop-k-preserved c =
    let x = c.args.spot.now.x in
    let y = c.args.spot.now.y in
    let z = c.args.spot.now.z in
    planes_more x.length y.length c.loop-k.k (box_of_runs x.first x.count y.first y.count z.first z.count) c.args.amounts.now c.args.list.now c.loop-k.list c.paste_plane.new.list c.requires.x c.requires.y c.loop-k.invariant c.paste_plane.ensures.plane

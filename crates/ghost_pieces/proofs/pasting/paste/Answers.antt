use Rattle.std.proofs.Common.{◌≡◌, ◌*◌, ◌==◌, ◌&&◌, true, length, sym, ◌∙◌, arith}
use Rattle.std.proofs.lemmas.Bool.{and_parts, eqb-true}
use Rattle.ghost_pieces.specs.Lemmas.Rows.{box_of_runs}
use Rattle.ghost_pieces.proofs.RowWrites.{pasted-whole, pasted-written}
use Rattle.ghost_pieces.proofs.pasting.paste.Goals as goal

pub returns-then-is_whole : goal.returns-then-is_whole
returns-then-is_whole c =
    let x = c.args.spot.now.x in
    let y = c.args.spot.now.y in
    let z = c.args.spot.now.z in
    let t : ((x.count == x.length) && (y.count == y.length) && (z.count == z.length)) ≡ true = sym c.is_whole.ensures.whole ∙ c.if-is_whole.true in
    let o = and_parts ((x.count == x.length) && (y.count == y.length)) (z.count == z.length) t in
    let u = and_parts (x.count == x.length) (y.count == y.length) o.0 in
    let ex = eqb-true x.count x.length u.0 in
    let ey = eqb-true y.count y.length u.1 in
    let ez = eqb-true z.count z.length o.1 in
    let same : length c.args.amounts.now ≡ length c.args.list.now = c.requires.amounts ∙ (λ j. ez j * ey j * ex j) ∙ sym c.requires.list in
    record {
      pasted = c.copy_from_slice.ensures.after ∙ pasted-whole x.length y.length (box_of_runs x.first x.count y.first y.count z.first z.count) c.args.amounts.now c.args.list.now z.length c.requires.list same (omega (arith, c.requires.x)) (omega (arith, c.requires.y)) (omega (arith, c.requires.z)) ex ey ez;
    }

pub returns-else-is_whole : goal.returns-else-is_whole
returns-else-is_whole c =
    let x = c.args.spot.now.x in
    let y = c.args.spot.now.y in
    let z = c.args.spot.now.z in
    record {
      pasted = pasted-written x.length y.length (box_of_runs x.first x.count y.first y.count z.first z.count) c.args.amounts.now c.args.list.now z.length c.requires.list c.paste_planes.new.list c.requires.x c.requires.y c.paste_planes.ensures.pasted;
    }

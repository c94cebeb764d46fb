use Rattle.std.proofs.Common.{length, refl, arith}
use Rattle.ghost_tests.proofs.FittingPieces.{AllFit-owed, AllFit-size}
use Rattle.ghost_tests.proofs.delivering.owed_by.Goals as goal

pub returns : goal.returns
returns c =
    let b = c.args.block.now in
    let s = c.args.size in
    let t = c.args.set.now in
    let is = c.if-not-is_at.ensures in
    let l = c.is_at.ensures.limits in
    let ps = c.in_ok-pieces.pieces.items in
    let owed = AllFit-owed t b.edge b.depth (length b.amounts) c.args.at ps c.requires.tiles l.even (omega (arith, l.least, l.deepest)) (omega (arith, l.least)) (is.fields refl) c.in_ok-pieces.ensures.owed in
    record { fit = AllFit-size t.grid b.edge s.edge b.depth s.depth ps (is.edge refl) (is.depth refl) owed }

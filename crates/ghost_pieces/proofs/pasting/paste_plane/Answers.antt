use Rattle.ghost_pieces.proofs.RowWrites.{plane_more}
use Rattle.ghost_pieces.proofs.pasting.paste_plane.Goals as goal

pub loop-y-preserved : goal.loop-y-preserved
loop-y-preserved c =
    let e = c.paste_row.ensures in
    plane_more c.args.at c.args.wide c.args.from c.loop-y.y c.args.count c.requires.narrow c.args.amounts.now c.args.list.now c.loop-y.list c.paste_row.new.list c.loop-y.invariant e.long e.row e.kept

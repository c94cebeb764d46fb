-- The list of the block's own cells.
use Rattle.std.proofs.Common.{◌+◌}
use Rattle.criteria.proofs.FaceRows.{own-side, toward-side}
use Rattle.criteria.proofs.faces.Faces.own_row.Goals as goal

pub row_in-requires-clause-cells : goal.row_in-requires-clause-cells
row_in-requires-clause-cells c =
    let b = c.args.block.now in
    toward-side b c.args.field (c.args.y + 1) (c.args.z + 1) 4 c.args.self.now.own.now (own-side b.edge b.depth c.args.y c.args.z c.requires.y c.requires.z) c.requires.faces.own

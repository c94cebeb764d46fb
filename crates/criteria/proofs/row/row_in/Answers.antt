-- A row lies within the list of its side.
use Rattle.criteria.proofs.RowNumbers.{row-fits}
use Rattle.criteria.proofs.row.row_in.Goals as goal

pub slice_bounds-result-end : goal.slice_bounds-result-end
slice_bounds-result-end c =
    row-fits c.args.block.now c.args.field c.args.y c.args.z c.args.number c.edge-n.result c.args.cells.now c.edge-n.ensures.limits.shallowest
    c.requires.y c.requires.z c.requires.cells c.requires.number c.edge-n.ensures.edge

use Rattle.ghost_pieces.proofs.PieceFacts.{owed_between, owed_cells, owed_length, piece_region, piece_size}
use Rattle.ghost_pieces.proofs.laws.owed_pieces.Goals as goal

pub returns-clause-between : goal.returns-clause-between
returns-clause-between c grid leaves n d fields i k ps p dom mesh balanced even deep some owed at = owed_between grid leaves n d fields i k ps p owed at

pub returns-clause-fits : goal.returns-clause-fits
returns-clause-fits c grid leaves n d fields i k ps p dom mesh balanced even deep some owed at =
    let o = owed_between grid leaves n d fields i k ps p owed at in (
      piece_size grid leaves n d dom mesh balanced even deep some p o.2 o.1 fields (owed_length grid leaves n d fields i k ps p owed at) (owed_cells grid leaves n d fields i k ps p owed at),
      piece_region grid leaves n d dom mesh balanced even deep some p o.2 o.1,
    )

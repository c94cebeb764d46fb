use Rattle.std.proofs.Common.{◌≤◌, arith}
use Rattle.ghost_pieces.proofs.BoxLaw.{region_is_box}
use Rattle.ghost_pieces.proofs.Pieces.{cell-sent, piece-sent}
use Rattle.ghost_pieces.proofs.laws.pieces_hold_samples.Goals as goal

pub returns-clause-cell : goal.returns-clause-cell
returns-clause-cell c s d f r b a amounts g w even there at has x = cell-sent s w d even f r b a amounts g there at has x

pub returns-clause-piece : goal.returns-clause-piece
returns-clause-piece c s d f r b a amounts w even deep there at has x =
    let some : 2 ≤ s.edge = w.edge in
    piece-sent s w d even f r b a amounts there at has (λ g p. (region_is_box s.grid s.leaves s.edge d r b a w.domain w.mesh w.balanced even deep there at (omega arith) g x).1 p)

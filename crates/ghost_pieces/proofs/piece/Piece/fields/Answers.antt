use Rattle.std.proofs.Common.{length, sym, ap, ◌∙◌}
use Rattle.ghost_pieces.specs.Pieces.{PieceState}
use Rattle.ghost_pieces.proofs.FlatLists.{how-many}
use Rattle.ghost_pieces.proofs.piece.Piece.fields.Goals as goal

pub returns : goal.returns
returns c =
    let b = c.self.inside in
    sym (how-many b.fields b.size b.amounts.items) ∙ ap (λ (p : PieceState). length p.amounts) c.self.view_is

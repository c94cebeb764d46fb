use Rattle.std.proofs.Common.{refl, sym, subst}
use Rattle.ghost_pieces.specs.Pieces.{FitsSize}
use Rattle.ghost_tests.proofs.FittingPieces.{filled_fits}
use Rattle.ghost_tests.proofs.delivering.fill_by.Goals as goal

pub returns : goal.returns
returns c =
    let s = c.args.size in
    let is = c.if-not-is_at.ensures in
    record { fits = subst (FitsSize s.edge s.depth 2) (sym c.fill_piece.ensures.filled) (filled_fits c.args.domain.now c.args.block.now s.edge s.depth c.args.piece.now (is.edge refl) (is.depth refl) (is.fields refl) c.requires.fits.size) }

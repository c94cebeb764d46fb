use Rattle.std.proofs.Common.{ap, ◌∙◌}
use Rattle.advect.specs.FluxPieces.{FluxPieceState}
use Rattle.advect.proofs.Insides.{elements, piece_as}
use Rattle.advect.proofs.Limits.{reduced-IsFluxPiece}
use Rattle.advect.proofs.reducing.reduce.Goals as goal

pub invariant_of-out : goal.invariant_of-out
invariant_of-out c =
    reduced-IsFluxPiece (piece_as c.out.inside) c.out.invariant c.args.faces.now c.sum_up.ensures.limits c.args.d (elements c.sum_up.new.sums.items)
    (ap (λ (p : FluxPieceState). p.edge) c.out.view_is ∙ c.requires.edge) c.sum_up.ensures.sums

pub returns-clause-limits : goal.returns-clause-limits
returns-clause-limits c =
    reduced-IsFluxPiece (piece_as c.out.inside) c.out.invariant c.args.faces.now c.sum_up.ensures.limits c.args.d (elements c.sum_up.new.sums.items)
    (ap (λ (p : FluxPieceState). p.edge) c.out.view_is ∙ c.requires.edge) c.sum_up.ensures.sums

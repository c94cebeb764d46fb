use Rattle.advect.proofs.Zeros.{zeros-IsFluxPiece}
use Rattle.advect.proofs.Insides.{elements}
use Rattle.advect.proofs.flux_piece.FluxPiece.new.Goals as goal

pub invariant_of-result : goal.invariant_of-result
invariant_of-result c =
    zeros-IsFluxPiece c.args.to c.args.from c.args.place c.args.side c.args.n c.args.fields (elements c.in_ok-zero_lists.field-0.items)
    c.requires.side c.requires.even c.requires.least c.requires.most c.requires.few c.in_ok-zero_lists.ensures.lists

pub returns-clause-limits : goal.returns-clause-limits
returns-clause-limits c =
    zeros-IsFluxPiece c.args.to c.args.from c.args.place c.args.side c.args.n c.args.fields (elements c.in_ok-zero_lists.field-0.items)
    c.requires.side c.requires.even c.requires.least c.requires.most c.requires.few c.in_ok-zero_lists.ensures.lists

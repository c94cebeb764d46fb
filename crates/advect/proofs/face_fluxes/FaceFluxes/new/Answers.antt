use Rattle.advect.proofs.Zeros.{zeros-IsFaceFluxes}
use Rattle.advect.proofs.Insides.{elements}
use Rattle.advect.proofs.face_fluxes.FaceFluxes.new.Goals as goal

pub invariant_of-result : goal.invariant_of-result
invariant_of-result c =
    zeros-IsFaceFluxes c.args.n c.args.fields (elements c.in_ok-zero_lists.field-0.items) (elements c.in_ok-zero_lists-2.field-0.items)
    c.requires.even c.requires.least c.requires.most c.requires.few c.in_ok-zero_lists.ensures.lists c.in_ok-zero_lists-2.ensures.lists

pub returns-clause-limits : goal.returns-clause-limits
returns-clause-limits c =
    zeros-IsFaceFluxes c.args.n c.args.fields (elements c.in_ok-zero_lists.field-0.items) (elements c.in_ok-zero_lists-2.field-0.items)
    c.requires.even c.requires.least c.requires.most c.requires.few c.in_ok-zero_lists.ensures.lists c.in_ok-zero_lists-2.ensures.lists

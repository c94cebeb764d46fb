use Rattle.std.proofs.Common.{◌+◌, ◌*◌, sym, subst, arith}
use Rattle.advect.specs.FaceFluxes.{AreFluxes}
use Rattle.advect.proofs.Insides.{high-are, low-are}
use Rattle.advect.proofs.face_fluxes.FaceFluxes.on_side.Goals as goal

pub returns-then-is_end-clause-faces : goal.returns-then-is_end-clause-faces
returns-then-is_end-clause-faces c =
    subst (AreFluxes c.args.self.now.edge) (sym c.as_slice.ensures.value)
    (high-are c.self.inside c.self.invariant c.args.self.now c.self.view_is (3 * c.args.field + c.axis_of.result) (let a = c.axis_of.ensures.within in let b = c.requires.field in omega arith) c.index.result.now c.index.ensures)

pub returns-else-is_end-clause-faces : goal.returns-else-is_end-clause-faces
returns-else-is_end-clause-faces c =
    subst (AreFluxes c.args.self.now.edge) (sym c.as_slice-else-is_end.ensures.value)
    (low-are c.self.inside c.self.invariant c.args.self.now c.self.view_is (3 * c.args.field + c.axis_of.result) (let a = c.axis_of.ensures.within in let b = c.requires.field in omega arith) c.index-else-is_end.result.now c.index-else-is_end.ensures)

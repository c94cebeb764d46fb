-- The faces that a leaf owes pieces for are sides, and the pieces hold only 0.
use Rattle.std.proofs.Common.{List, subst}
use Rattle.std.specs.Prelude.{Contains}
use Rattle.flux_register.specs.Faces.{FluxFace}
use Rattle.flux_register.proofs.first_cells.take_faces.Goals as goal

pub blanks-requires-clause-sides : goal.blanks-requires-clause-sides
blanks-requires-clause-sides c = λ face h. (c.in_ok-owes.ensures.faces.each face (subst (λ (l : List FluxFace). Contains l face) c.deref.ensures.value h)).side

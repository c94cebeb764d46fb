-- The pieces of the faces so far.
use Rattle.std.proofs.Common.{◌≡◌, map, take}
use Rattle.advect.specs.FluxPieces.{flux_piece, no_sums}
use Rattle.flux_register.specs.Faces.{FluxFace}
use Rattle.flux_register.proofs.first_cells.blanks.Given as goal

abbrev pub invariant-loop-face : goal.invariant-loop-face
invariant-loop-face l = l.pieces.items ≡ map (λ (face : FluxFace). flux_piece face.to face.from face.place face.side l.n (no_sums l.n l.fields)) (take l.face-index l.owes)

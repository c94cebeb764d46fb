use Rattle.std.proofs.Common.{◌+◌, ◌*◌, slice_index}
use Rattle.ghost_pieces.specs.Lemmas.Fills.{FillsPlane}
use Rattle.ghost_pieces.proofs.copied_boxes.copy_lines.Given as goal

abbrev pub invariant-loop-j : goal.invariant-loop-j
invariant-loop-j l = FillsPlane (λ i j. slice_index l.q (l.first + j * l.step + i)) 0 l.count l.j l.fn.out l.out

use Rattle.std.proofs.Common.{◌+◌, ◌*◌, ◌/◌}
use Rattle.advect.specs.Lemmas.Corrections.{CorrectsBetween}
use Rattle.advect.proofs.correcting.correct_row.Given as goal

abbrev pub invariant-loop-i : goal.invariant-loop-i
invariant-loop-i l =
    CorrectsBetween l.faces l.piece ((l.field * (l.piece.edge / 2) + l.j) * (l.piece.edge / 2)) ((l.field * (l.piece.edge / 2) + l.j) * (l.piece.edge / 2) + l.i) l.initial.block l.block

use Rattle.std.proofs.Common.{◌+◌, ◌*◌, ◌/◌}
use Rattle.advect.specs.Lemmas.Corrections.{CorrectsBetween}
use Rattle.advect.proofs.correcting.correct_field.Given as goal

abbrev pub invariant-loop-j : goal.invariant-loop-j
invariant-loop-j l =
    CorrectsBetween l.faces l.piece (l.field * (l.piece.edge / 2) * (l.piece.edge / 2)) ((l.field * (l.piece.edge / 2) + l.j) * (l.piece.edge / 2)) l.initial.block l.block

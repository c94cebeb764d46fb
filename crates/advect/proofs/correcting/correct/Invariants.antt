use Rattle.std.proofs.Common.{◌*◌, ◌/◌}
use Rattle.advect.specs.Lemmas.Corrections.{CorrectsBetween}
use Rattle.advect.proofs.correcting.correct.Given as goal

abbrev pub invariant-loop-field : goal.invariant-loop-field
invariant-loop-field l = CorrectsBetween l.faces l.piece 0 (l.field * (l.piece.edge / 2) * (l.piece.edge / 2)) l.initial.block l.block

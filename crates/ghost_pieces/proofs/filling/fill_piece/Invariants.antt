use Rattle.ghost_pieces.specs.Lemmas.Fills.{HasSamples}
use Rattle.ghost_pieces.proofs.filling.fill_piece.Given as goal

abbrev pub invariant-loop-f : goal.invariant-loop-f
invariant-loop-f l = HasSamples l.domain l.block l.fn.piece l.f l.piece

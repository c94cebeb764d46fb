use Rattle.ghost_pieces.specs.Lemmas.FiledFields.{HasFields}
use Rattle.ghost_pieces.proofs.filing.file_fields.Given as goal

abbrev pub invariant-loop-f : goal.invariant-loop-f
invariant-loop-f l = HasFields l.fn.block l.piece l.f l.block

use Rattle.ghost_pieces.specs.Lemmas.Rows.{IsPlane}
use Rattle.ghost_pieces.proofs.pasting.paste_plane.Given as goal

abbrev pub invariant-loop-y : goal.invariant-loop-y
invariant-loop-y l = IsPlane l.at l.wide l.from l.y l.count l.amounts l.initial.list l.list

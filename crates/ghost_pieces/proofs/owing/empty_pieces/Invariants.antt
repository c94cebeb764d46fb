use Rattle.std.proofs.Common.{◌≡◌, take}
use Rattle.ghost_pieces.specs.Lemmas.OwedLists.{owed_pieces}
use Rattle.ghost_pieces.proofs.owing.empty_pieces.Given as goal

abbrev pub invariant-loop-j : goal.invariant-loop-j
invariant-loop-j l = l.found.items ≡ owed_pieces l.set.grid l.n l.depth l.fields l.set.places l.at l.sender (take l.j-index l.j-items)

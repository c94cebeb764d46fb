-- The headers of the pieces so far.
use Rattle.std.proofs.Common.{◌≡◌, map, take}
use Rattle.refresh_phase.specs.Cells.{header}
use Rattle.refresh_phase.proofs.header.headers.Given as goal

abbrev pub invariant-loop-piece : goal.invariant-loop-piece
invariant-loop-piece l = l.headers.items ≡ map header (take l.piece-index l.pieces)

use Rattle.std.proofs.Common.{[], ◌∷◌}
use Rattle.quiet_table.specs.Contents.{contents_of, origin_of}
use Rattle.quiet_table.proofs.board.Board.take_cell.Given as goal

abbrev pub ghosts-take_slot : goal.ghosts-take_slot
ghosts-take_slot g a = record { origin = origin_of (contents_of g.C.Load.rest g.C.Load.parcels g.B.Load.rest g.B.Load.parcels) g.C.LegalLoad.origin a.self.now.table.shared.key.value.items ∷ [] }

-- What a pen tells after a call.
use Rattle.std.proofs.Common.{ap}
use Rattle.mesh_output.specs.Pens.{PenRest}
use Rattle.cello_io.specs.Files.{ShelfTells}
use Rattle.mesh_output.proofs.LastFiles.{last_bytes-appended, around-appended}
use Rattle.mesh_output.proofs.pen.PenSink.write_piece.Goals as goal

pub returns-clause-appended : goal.returns-clause-appended
returns-clause-appended g c =
    let shelf = c.args.self.now.shelf.now in
    last_bytes-appended c.args.piece.now (g.H.Shelf.tells shelf) (g.H.Shelf.tells c.append.new.self) c.append.result (g.met.H.Shelf.open_is_last shelf) c.args.self.now.is_writing c.append.ensures.appends

pub returns-clause-same_rest : goal.returns-clause-same_rest
returns-clause-same_rest g c =
    let shelf = c.args.self.now.shelf in
    let make : ShelfTells → PenRest = λ around. record { shelf = shelf.ghost_name; around = around } in
    ap make (around-appended c.args.piece.now (g.H.Shelf.tells shelf.now) (g.H.Shelf.tells c.append.new.self) c.append.result c.append.ensures.appends)

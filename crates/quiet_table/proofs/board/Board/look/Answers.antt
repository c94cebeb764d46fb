use Rattle.std.proofs.Common.{◌≡◌, ◌/◌, length, arith, sym}
use Rattle.quiet_table.specs.Contents.{contents_of}
use Rattle.quiet_table.proofs.NumberSteps.{looks_at}
use Rattle.quiet_table.proofs.board.Board.look.Goals as goal

pub load-requires : goal.load-requires
load-requires g c =
    let b = c.args.self.now in
    let half : length b.table.shared.key.value.items / 2 ≡ b.shards = b.sized.2 in (
      c.requires.own,
      omega arith,
      looks_at (contents_of g.C.Load.rest g.C.Load.parcels g.B.Load.rest g.B.Load.parcels) g.C.LegalLoad.legal g.C.LegalLoad.origin g.met.C.LegalLoad.bounded (length b.table.shared.key.value.items / 2) _
          b.shards b.table.shared.table_id.slots c.args.place.now.id c.args.place.now.me (sym half) b.sized.1,
    )

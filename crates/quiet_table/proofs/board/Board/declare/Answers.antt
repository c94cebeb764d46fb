use Rattle.std.proofs.Common.{◌≡◌, ◌/◌, length, arith, sym}
use Rattle.quiet_table.specs.Contents.{contents_of}
use Rattle.quiet_table.proofs.NumberSteps.{declares_at}
use Rattle.quiet_table.proofs.board.Board.declare.Goals as goal

pub compare_exchange-requires : goal.compare_exchange-requires
compare_exchange-requires g c =
    let b = c.args.self.now in
    let half : length b.table.shared.key.value.items / 2 ≡ b.shards = b.sized.2 in (
      c.requires.own,
      omega arith,
      declares_at (contents_of g.C.Load.rest g.C.Load.parcels g.B.Load.rest g.B.Load.parcels) g.C.LegalLoad.legal g.C.LegalLoad.origin g.met.C.LegalLoad.bounded (length b.table.shared.key.value.items / 2) _
          b.shards b.table.shared.table_id.slots c.args.place.now.id c.args.place.now.me (sym half) b.sized.1 c.requires.full.0 c.requires.full.1 c.requires.equal,
    )

use Rattle.std.proofs.Common.{◌≡◌, ◌/◌, length, arith, sym}
use Rattle.quiet_table.specs.Contents.{contents_of}
use Rattle.quiet_table.proofs.NumberSteps.{adds_handled_at}
use Rattle.quiet_table.proofs.board.Board.add_handled.Goals as goal

pub fetch_add-requires : goal.fetch_add-requires
fetch_add-requires g c =
    let b = c.args.self.now in
    let half : length b.table.shared.key.value.items / 2 ≡ b.shards = b.sized.2 in (
      c.requires.own,
      omega arith,
      adds_handled_at (contents_of g.C.Load.rest g.C.Load.parcels g.B.Load.rest g.B.Load.parcels) g.C.LegalLoad.legal g.C.LegalLoad.origin g.met.C.LegalLoad.bounded (length b.table.shared.key.value.items / 2) _
          b.shards b.table.shared.table_id.slots c.args.place.now.id c.args.place.now.me c.args.shard c.args.handled (sym half) b.sized.1 c.requires.within c.requires.live c.requires.enough,
    )

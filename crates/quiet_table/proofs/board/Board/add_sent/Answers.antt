use Rattle.std.proofs.Common.{◌≡◌, ◌/◌, length, arith, sym}
use Rattle.quiet_table.specs.Contents.{contents_of}
use Rattle.quiet_table.proofs.SentTurns.{sends_at}
use Rattle.quiet_table.proofs.board.Board.add_sent.Goals as goal

pub fetch_add-requires : goal.fetch_add-requires
fetch_add-requires g c =
    let b = c.args.self.now in
    let law = g.met.C.LegalLoad in
    let half : length b.table.shared.key.value.items / 2 ≡ b.shards = b.sized.2 in (
      c.requires.own,
      omega arith,
      sends_at (contents_of g.C.Load.rest g.C.Load.parcels g.B.Load.rest g.B.Load.parcels) g.C.LegalLoad.legal g.C.LegalLoad.origin g.C.LegalLoad.turn law.balanced law.idle law.sends_after law.keeps law.any_order law.bounded law.same_origin (length b.table.shared.key.value.items / 2) _
          b.shards b.table.shared.table_id.slots c.args.place.now.id c.args.place.now.me c.args.shard c.args.sent g.L.TurnPick.handled g.L.TurnPick.rest c.requires.turn.0 g.L.TurnPick.parcels (sym half) b.sized.1 c.requires.turn.1 c.requires.within c.requires.first c.requires.turn.2,
    )

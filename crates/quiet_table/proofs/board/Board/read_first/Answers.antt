use Rattle.std.proofs.Common.{◌≡◌, ◌/◌, length, arith, sym, refl}
use Rattle.quiet_table.specs.Contents.{contents_of}
use Rattle.quiet_table.proofs.NumberSteps.{reads_first_at}
use Rattle.quiet_table.proofs.board.Board.read_first.Goals as goal

pub load-requires : goal.load-requires
load-requires g c =
    let b = c.args.self.now in
    let half : length b.table.shared.key.value.items / 2 ≡ b.shards = b.sized.2 in (
      c.requires.own,
      omega arith,
      reads_first_at (contents_of g.C.Load.rest g.C.Load.parcels g.B.Load.rest g.B.Load.parcels) g.C.LegalLoad.legal g.C.LegalLoad.origin g.met.C.LegalLoad.bounded (length b.table.shared.key.value.items / 2) _
          b.shards b.table.shared.table_id.slots c.args.place.now.id c.args.place.now.me c.args.k (sym half) b.sized.1 c.requires.within c.requires.old,
    )

pub returns-clause-told : goal.returns-clause-told
returns-clause-told g c = (c.load.ensures.2 c.args.k c.args.self.now.shards c.args.self.now.sized.1 refl).0

pub returns-clause-small : goal.returns-clause-small
returns-clause-small g c = (c.load.ensures.2 c.args.k c.args.self.now.shards c.args.self.now.sized.1 refl).1

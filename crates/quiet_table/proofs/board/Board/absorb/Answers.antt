use Rattle.std.proofs.Common.{◌/◌, length, arith, ap, ◌∙◌}
use Rattle.quiet_table.specs.Contents.{contents_of}
use Rattle.quiet_table.specs.Views.{carried_of}
use Rattle.quiet_table.proofs.Joins.{joins}
use Rattle.quiet_table.proofs.board.Board.absorb.Goals as goal

pub join_seat-requires : goal.join_seat-requires
join_seat-requires g c =
    let b = c.args.self.now in
    let s = c.args.first.now in
    let o = c.args.other in (
      c.requires.own.0,
      c.requires.own.1,
      o.carried ∙ ap carried_of c.requires.bare,
      omega arith,
      joins (contents_of g.C.Load.rest g.C.Load.parcels g.B.Load.rest g.B.Load.parcels) g.C.LegalLoad.legal g.C.LegalLoad.origin (length b.table.shared.key.value.items / 2) _ _ s.place.me.0 _ o.place.me.0 s.live (s.numbered.0 ∙ c.requires.next.0) o.live (o.numbered.0 ∙ c.requires.next.1) c.requires.bare o.settled,
    )

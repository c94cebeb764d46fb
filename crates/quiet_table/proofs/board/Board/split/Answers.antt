use Rattle.std.proofs.Common.{◌/◌, length, arith, ◌∙◌}
use Rattle.quiet_table.specs.Contents.{contents_of}
use Rattle.quiet_table.proofs.Claims.{splits}
use Rattle.quiet_table.proofs.board.Board.split.Goals as goal

pub split_seat-place-requires : goal.split_seat-place-requires
split_seat-place-requires g c =
    let b = c.args.self.now in
    let s = c.args.first.now in (
      c.requires.own,
      omega arith,
      splits (contents_of g.C.Load.rest g.C.Load.parcels g.B.Load.rest g.B.Load.parcels) g.C.LegalLoad.legal g.C.LegalLoad.origin (length b.table.shared.key.value.items / 2) _ _ _ s.live (s.numbered.0 ∙ c.requires.next.0),
    )

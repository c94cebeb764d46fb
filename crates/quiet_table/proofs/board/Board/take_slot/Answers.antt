use Rattle.std.proofs.Common.{rules, ◌≡◌, ◌+◌, ◌*◌, ◌/◌, length, arith, sym, ap, ◌∙◌, Some, ◌∷◌}
use Rattle.atomic_table.specs.Table.{rest}
use Rattle.quiet_table.specs.Contents.{contents_of}
use Rattle.quiet_table.proofs.Claims.{claims_at}
use Rattle.quiet_table.proofs.board.Board.take_slot.Goals as goal

pub compare_exchange-turn-requires : goal.compare_exchange-turn-requires
compare_exchange-turn-requires g c =
    let b = c.args.self.now in
    let s = c.args.seat.now in
    let slots : b.table.shared.table_id.slots ≡ 2 * (length b.table.shared.key.value.items / 2) = b.sized.1 ∙ ap (λ z. 2 * z) (sym b.sized.2) in (
      c.requires.own,
      omega arith,
      claims_at (contents_of g.C.Load.rest g.C.Load.parcels g.B.Load.rest g.B.Load.parcels) g.C.LegalLoad.legal g.C.LegalLoad.origin (length b.table.shared.key.value.items / 2) _ g.L.OriginPick.origin c.requires.origin g.met.C.LegalLoad.any_order _ _ _ _ _ slots (ap (λ z. z + 1) (sym s.numbered.0)) c.requires.within s.live c.requires.free,
    )

pub exchange-requires : goal.exchange-requires
exchange-requires g c =
    let told = c.compare_exchange-turn.ensures.2.1 (search rules) in
    (search rules, (_, ap (λ m. m.1) told.2 ∙ ap (λ cs. (c.args.slot, Some told.0) ∷ cs) (sym (ap (λ m. rest m.1) told.2))))

use Rattle.std.proofs.Common.{◌≡◌, ◌*◌, ◌/◌, length, arith, sym, ap, ◌∙◌, subst, None, ◌∷◌}
use Rattle.atomic_table.specs.Table.{rest}
use Rattle.quiet_table.specs.Contents.{contents_of}
use Rattle.quiet_table.specs.Views.{FirstIs}
use Rattle.quiet_table.specs.Hands.{MayGive}
use Rattle.quiet_table.proofs.Releases.{releases_at}
use Rattle.quiet_table.proofs.HandsOut.{first_out}
use Rattle.quiet_table.proofs.board.Board.give_slot.Goals as goal

pub exchange-empty-requires : goal.exchange-empty-requires
exchange-empty-requires g c = let s = c.args.seat.now in
    (c.requires.own, (_, s.carried ∙ (first_out g.row.C.Denot g.row.B.Denot c.args.slot s.place.me.0.hands c.requires.held ∙ ap (λ cs. (c.args.slot, None) ∷ rest cs) (sym s.carried))))

pub store-requires : goal.store-requires
store-requires g c =
    let b = c.args.self.now in
    let s = c.args.seat.now in
    let did = c.exchange-empty.ensures in
    let same = ap (λ m. m.0.hands) did.3 in
    let slots : b.table.shared.table_id.slots ≡ 2 * (length b.table.shared.key.value.items / 2) = b.sized.1 ∙ ap (λ z. 2 * z) (sym b.sized.2) in (
      did.0 ∙ c.requires.own,
      omega arith,
      releases_at (contents_of g.C.Load.rest g.C.Load.parcels g.B.Load.rest g.B.Load.parcels) g.C.LegalLoad.legal g.C.LegalLoad.origin g.met.C.LegalLoad.any_order (length b.table.shared.key.value.items / 2) _ _ _ _ _ c.args.item _ slots (ap (λ m. m.1) did.3) (subst (FirstIs c.args.slot) (sym same) c.requires.held) c.requires.kind
          (subst (λ hs. MayGive hs (contents_of g.C.Load.rest g.C.Load.parcels g.B.Load.rest g.B.Load.parcels c.args.item)) (sym same) c.requires.may),
    )

use Rattle.std.proofs.Common.{sym, ap, ◌∙◌, refl}
use Rattle.quiet_table.specs.Views.{carried_of}
use Rattle.quiet_table.proofs.HandsOut.{recarried_out, count_enough, count_live, count_done}
use Rattle.quiet_table.proofs.board.Board.count.Goals as goal

pub add_sent-requires-clause-turn : goal.add_sent-requires-clause-turn
add_sent-requires-clause-turn g c = (g.C.Load.rest c.args.value.now, refl, c.requires.turn)

pub add_handled-requires-clause-enough : goal.add_handled-requires-clause-enough
add_handled-requires-clause-enough g c = count_enough g.row.C.Denot g.row.B.Denot _ _ _ _ _ _ (c.add_sent.ensures.told (g.C.Load.rest c.args.value.now) refl)

pub add_handled-requires-clause-live : goal.add_handled-requires-clause-live
add_handled-requires-clause-live g c = count_live g.row.C.Denot g.row.B.Denot _ _ _ _ _ _ (c.add_sent.ensures.told (g.C.Load.rest c.args.value.now) refl) c.args.seat.now.live

pub invariant_of-seat : goal.invariant_of-seat
invariant_of-seat g c =
    let s = c.args.seat.now in
    let q = count_done g.row.C.Denot g.row.B.Denot s.place.me.0 s.place.me.1 c.add_sent.new.place.me c.add_handled.new.place.me (g.C.Load.rest c.args.value.now) (g.C.Load.parcels c.args.value.now) c.args.handled (c.add_sent.ensures.told (g.C.Load.rest c.args.value.now) refl) c.add_handled.ensures.told in
    record {
      live = ap (λ m. m.0.live) q ∙ s.live;
      numbered = (ap (λ m. m.0.number) q ∙ s.numbered.0, s.numbered.1);
      settled = ap (λ m. m.0.uncounted) q ∙ s.settled;
      carried = ap (λ m. m.1) q ∙ (s.carried ∙ (recarried_out g.row.C.Denot g.row.B.Denot (g.C.Load.rest c.args.value.now) (g.C.Load.parcels c.args.value.now) s.place.me.0.hands ∙ ap (λ m. carried_of m.0.hands) (sym q)));
    }

pub returns-clause-settled : goal.returns-clause-settled
returns-clause-settled g c =
    let s = c.args.seat.now in
    let q = count_done g.row.C.Denot g.row.B.Denot s.place.me.0 s.place.me.1 c.add_sent.new.place.me c.add_handled.new.place.me (g.C.Load.rest c.args.value.now) (g.C.Load.parcels c.args.value.now) c.args.handled (c.add_sent.ensures.told (g.C.Load.rest c.args.value.now) refl) c.add_handled.ensures.told in
    ap (λ m. m.0) q

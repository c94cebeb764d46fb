use Rattle.std.proofs.Common.{◌≡◌, ◌≢◌, suc, map, length, arith, sym, ap, subst, ◌∙◌}
use Rattle.std.specs.Prelude.{slice_get}
use Rattle.quiet_table.specs.BoardRule.{stops, handles}
use Rattle.std.proofs.lemmas.Option.{same_Some}
use Rattle.quiet_table.proofs.Emptying.{each_first}
use Rattle.quiet_table.proofs.board.Board.gather.Goals as goal

pub absorb_all-requires-clause-own : goal.absorb_all-requires-clause-own
absorb_all-requires-clause-own g c = (c.requires.each 0 _ (ap (λ l. slice_get l 0) c.first_and_others-first.ensures)).1

pub absorb_all-requires-clause-zeroth : goal.absorb_all-requires-clause-zeroth
absorb_all-requires-clause-zeroth g c =
    let at = ap (λ l. slice_get l 0) c.first_and_others-first.ensures in
    ((c.requires.each 0 _ at).0, (c.requires.all _ at).1)

pub absorb_all-requires-clause-each : goal.absorb_all-requires-clause-each
absorb_all-requires-clause-each g c =
    λ i s e. let it = c.requires.each (suc i) s (ap (λ l. slice_get l (suc i)) c.first_and_others-first.ensures ∙ e) in ((let a = it.0 in omega arith), it.1, it.2)

pub returns-clause-own : goal.returns-clause-own
returns-clause-own g c = (c.absorb_all.ensures.own.0 ∙ (c.requires.each 0 _ (ap (λ l. slice_get l 0) c.first_and_others-first.ensures)).1, c.absorb_all.ensures.own.1)

pub returns-clause-told : goal.returns-clause-told
returns-clause-told g c =
    let at = ap (λ l. slice_get l 0) c.first_and_others-first.ensures in
    let t = c.absorb_all.ensures.told in
    (t.0 ∙ (c.requires.each 0 _ at).2, (let a = t.1 in let b = t.2 in let d = (c.requires.all _ at).0 in let e = ap (λ l. length l) c.first_and_others-first.ensures in omega arith))

pub returns-clause-seen : goal.returns-clause-seen
returns-clause-seen g c = let s = c.absorb_all.ensures.seen in each_first (λ z. z.place.me.0.seen ≢ 0 → c.absorb_all.new.first.place.me.0.seen ≢ 0) c.args.seats.items c.first_and_others-first.result.0 c.first_and_others-first.result.1.items c.first_and_others-first.ensures (λ h e. h (sym (s.0 h) ∙ e)) s.1

pub returns-clause-stops : goal.returns-clause-stops
returns-clause-stops g c = c.absorb_all.ensures.stops ∙ sym (ap (λ l. stops (map (λ s. s.place.me.0) l)) c.first_and_others-first.ensures)

pub returns-clause-handled : goal.returns-clause-handled
returns-clause-handled g c = c.absorb_all.ensures.handled ∙ sym (ap (λ l. handles (map (λ s. s.place.me.0) l)) c.first_and_others-first.ensures)

pub returns-clause-first : goal.returns-clause-first
returns-clause-first g c = λ s e h.
    let same : c.first_and_others-first.result.0 ≡ s = same_Some c.first_and_others-first.result.0 s (sym (ap (λ l. slice_get l 0) c.first_and_others-first.ensures) ∙ e) in
    subst (λ z. z.place.me.0.seen ≢ 0 → c.absorb_all.new.first.place.me.0.seen ≡ z.place.me.0.seen) same c.absorb_all.ensures.seen.0 h

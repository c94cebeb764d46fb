use Rattle.std.proofs.Common.{rules, ◌≡◌, ◌≢◌, ◌<◌, length, arith, sym, ap, ◌∙◌, refl, subst}
use Rattle.std.specs.Prelude.{slice_get}
use Rattle.std.proofs.lemmas.Grind.{common_steps}
use Rattle.std.proofs.lemmas.Option.{slice_get_read}
use Rattle.quiet_table.specs.Views.{dealt_view, first_view}
use Rattle.quiet_table.proofs.Dealt.{split_left-dealt, split_right-dealt, all_dealt}
use Rattle.quiet_table.proofs.Openings.{each_more, first_is}
use Rattle.quiet_table.proofs.board.Board.deal.Goals as goal

pub split-seat-requires : goal.split-seat-requires
split-seat-requires g c =
    let seats = c.loop-number.seats in
    let inv = c.loop-number.invariant in
    let low : 0 < length seats.items = search rules in
    let at = slice_get_read seats.items (length seats.items) 0 c.index_mut-first.result.now refl low c.index_mut-first.ensures.value in
    let it = inv.each 0 c.index_mut-first.result.now at in
    let splits = ap (λ z. z.splits) (inv.first c.index_mut-first.result.now at) in
    record {
      own = it.1;
      next = (it.0, (let a = inv.some in omega arith), (let a = c.requires.few in omega arith));
    }

pub loop-number-preserved : goal.loop-number-preserved
loop-number-preserved g c =
    let seats = c.loop-number.seats in
    let inv = c.loop-number.invariant in
    let n = c.loop-number.number in
    let low : 0 < length seats.items = search rules in
    let at = slice_get_read seats.items (length seats.items) 0 c.index_mut-first.result.now refl low c.index_mut-first.ensures.value in
    let it = inv.each 0 c.index_mut-first.result.now at in
    let was = inv.first c.index_mut-first.result.now at in
    let kept = c.split-seat.ensures.kept in
    let made = c.split-seat.ensures.made in
    record {
      count = search rules;
      room = search rules;
      first = rw c.push_reserved-in-loop-number.ensures.items (λ s e. sym (ap (λ z. z.place.me.0) (first_is seats.items c.split-seat.new.first c.split-seat.result s low e)) ∙ split_left-dealt n _ _ inv.some was kept.2);
      each = rw c.push_reserved-in-loop-number.ensures.items (each_more (λ i s. (s.number ≡ i) × (s.place.table_id ≡ c.args.self.now.table.shared.table_id) × (i ≢ 0 → s.place.me.0 ≡ record first_view { number = i })) seats.items c.split-seat.new.first c.split-seat.result n (search rules) (omega arith) inv.each (kept.1, kept.0 ∙ it.1, (λ q. absurd (q refl))) (made.0, made.1, (λ _. split_right-dealt n _ _ inv.some was made.2)));
      some = omega arith;
    }

pub returns-clause-seats : goal.returns-clause-seats
returns-clause-seats g c =
    let inv = c.loop-number.invariant in
    let inv_seats = c.loop-number.seats.items in
    let all : c.loop-number.number ≡ c.args.workers = first_of (search rules, grind (arith, common_steps)) in
    λ i s e. let it = inv.each i s e in (it.0, it.1, all_dealt c.args.workers i s.place.me.0 (λ q. subst (λ z. s.place.me.0 ≡ dealt_view z 0) all (inv.first s (ap (slice_get inv_seats) (sym q) ∙ e))) it.2)

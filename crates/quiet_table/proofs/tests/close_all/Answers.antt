use Rattle.std.proofs.Common.{rules, ◌≡◌, ◌<◌, ◌+◌, ◌∙◌, [], length, sym, ap, refl}
use Rattle.std.proofs.lemmas.Grind.{common_steps}
use Rattle.std.proofs.lemmas.Option.{slice_get_read}
use Rattle.std.proofs.Common.{arith}
use Rattle.quiet_table.proofs.Dealt.{dealt_bare}
use Rattle.quiet_table.proofs.Trading.{each_set, set_first}
use Rattle.quiet_table.proofs.tests.close_all.Goals as goal

pub close-requires-clause-each : goal.close-requires-clause-each
close-requires-clause-each c =
    let seats = c.args.seats.items in
    let first = c.index_mut-first.result.now in
    let worked = c.finish-wave.new.seat in
    let low : 0 < length seats = first_of (search rules, grind (arith, common_steps)) in
    let was = c.requires.each 0 first (slice_get_read seats (length seats) 0 first refl low c.index_mut-first.ensures.value) in
    let rest = c.finish-wave.ensures.rest in
    each_set (λ i s. (s.number ≡ i) × (s.place.table_id ≡ c.args.board.table.shared.table_id) × (s.place.me.0.hands ≡ [])) seats worked
    (λ i s e. let it = c.requires.each i s e in (it.0, it.1, ap (λ z. z.hands) it.2 ∙ dealt_bare 4 i))
    (sym worked.numbered.0 ∙ (ap (λ z. z.number) rest ∙ (first.numbered.0 ∙ was.0)), c.finish-wave.ensures.own ∙ was.1, ap (λ z. z.hands) rest ∙ ap (λ z. z.hands) was.2)

pub close-requires-clause-all : goal.close-requires-clause-all
close-requires-clause-all c = λ s e.
    let seats = c.args.seats.items in
    let first = c.index_mut-first.result.now in
    let worked = c.finish-wave.new.seat in
    let low : 0 < length seats = first_of (search rules, grind (arith, common_steps)) in
    let was = c.requires.each 0 first (slice_get_read seats (length seats) 0 first refl low c.index_mut-first.ensures.value) in
    let rest = c.finish-wave.ensures.rest in
    let is = sym (set_first seats worked s e) in
    (ap (λ z. z.place.me.0.splits + 1) is ∙ (ap (λ z. z.splits + 1) rest ∙ (ap (λ z. z.splits + 1) was.2 ∙ sym c.requires.four.1)), ap (λ z. z.place.me.0.joins) is ∙ (ap (λ z. z.joins) rest ∙ ap (λ z. z.joins) was.2))

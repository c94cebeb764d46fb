use Rattle.std.proofs.Common.{◌<◌, ◌∙◌, length, arith}
use Rattle.std.specs.Prelude.{vec_len}
use Rattle.quiet_table.proofs.Dealt.{dealt_bare}
use Rattle.post_office.specs.Lemmas.PartLaws.{there}
use Rattle.shared_phase.proofs.serving.close_worked.Goals as goal

pub close-requires-clause-each : goal.close-requires-clause-each
close-requires-clause-each g c = λ i s e. let it = c.requires.each i s e in (it.0, it.1, it.2.hands ∙ dealt_bare (vec_len c.args.seats) i)

pub close-requires-clause-all : goal.close-requires-clause-all
close-requires-clause-all g c = λ s e. let it = c.requires.each 0 s e in ((let a = it.2.splits in let b = c.requires.some_seat in omega arith), it.2.joins)

pub close-requires-clause-seen : goal.close-requires-clause-seen
close-requires-clause-seen g c =
    let some_seat : 0 < length c.args.seats.items = (let n = c.requires.some_seat in omega (arith, n, c.args.seats.ok.0)) in
    let first = there c.args.seats.items 0 some_seat in
    (0, first.0, first.1, (c.requires.each 0 first.0 first.1).3)

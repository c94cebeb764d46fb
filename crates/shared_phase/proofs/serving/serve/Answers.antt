use Rattle.std.proofs.Common.{◌∙◌, sym, ap, subst}
use Rattle.std.specs.Prelude.{slice_index_or}
use Rattle.std.proofs.lemmas.Option.{slice_get-get_or}
use Rattle.quiet_table.specs.Views.{dealt_view}
use Rattle.quiet_table.proofs.Dealt.{dealt_bare}
use Rattle.post_office.specs.Seats.{StaysSeat}
use Rattle.shared_phase.proofs.serving.serve.Goals as goal

pub work_all-requires-clause-ready : goal.work_all-requires-clause-ready
work_all-requires-clause-ready g c κs within = λ k d low.
    let seats = c.in_ok-post.seats.items in
    let it = c.in_ok-post.ensures.seats k (slice_index_or seats k d) (slice_get-get_or seats k d low) in
    (it.1, ap (λ v. v.hands) it.2 ∙ dealt_bare c.args.workers k)

pub work_all-requires-clause-each : goal.work_all-requires-clause-each
work_all-requires-clause-each g c κs within = λ i s e.
    let it = c.in_ok-post.ensures.seats i s e in
    (it.0, it.1, it.2 ∙ ap (λ n. dealt_view n i) (sym c.in_ok-post.ensures.counts.0))

pub close_worked-requires-clause-each : goal.close_worked-requires-clause-each
close_worked-requires-clause-each g c = λ i s e.
    let it = c.in_ok-seats.ensures.each i s e in
    (it.0, it.1, subst (λ n. StaysSeat (dealt_view n i) s.place.me.0) (sym c.in_ok-seats.ensures.count) it.2, it.3)

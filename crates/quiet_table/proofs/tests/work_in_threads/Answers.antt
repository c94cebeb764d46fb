use Rattle.std.proofs.Common.{rules, ℕ, ◌≡◌, ◌<◌, ◌∙◌, length, ap, refl, subst, arith}
use Rattle.std.specs.Prelude.{slice_index_or}
use Rattle.std.proofs.lemmas.Grind.{common_steps}
use Rattle.std.proofs.lemmas.Option.{slice_get_read, slice_get_within, get_or_from_slice_get}
use Rattle.quiet_table.specs.declared.view.View.{View}
use Rattle.quiet_table.proofs.tests.work_in_threads.Goals as goal

pub returns-clause-each : goal.returns-clause-each
returns-clause-each g c = λ i s e.
    let low : i < length c.in_ok-worked.worked.items = slice_get_within c.in_ok-worked.worked.items i s e in
    let same_count : length c.in_ok-worked.worked.items ≡ length c.args.seats.items = first_of (search rules, grind (arith, common_steps)) in
    let below : i < length c.args.seats.items = omega arith in
    let it = (c.in_ok-worked.ensures.each i s below).1 in
    let same : slice_index_or c.in_ok-worked.worked.items i s ≡ s = get_or_from_slice_get c.in_ok-worked.worked.items i s s e in
    let was = c.requires.each i it.job (slice_get_read c.args.seats.items (length c.args.seats.items) i it.job refl below it.job_read) in
    let own = subst (λ r. (r.place.table_id ≡ it.job.place.table_id) × (r.number ≡ it.job.number)) same it.call.met.0 in
    let rest = subst (λ r. r.place.me.0 ≡ record it.job.place.me.0 { handled = r.place.me.0.handled; finds = r.place.me.0.finds; gave = r.place.me.0.gave }) same it.call.met.1 in
    (own.1 ∙ was.0, own.0 ∙ was.1, rest ∙ ap (λ (z : View ℕ ℕ). record z { handled = s.place.me.0.handled; finds = s.place.me.0.finds; gave = s.place.me.0.gave }) was.2)

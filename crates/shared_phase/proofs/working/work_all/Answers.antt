use Rattle.std.proofs.Common.{rules, ◌≡◌, ◌≢◌, ◌<◌, ◌∙◌, length, sym, refl, subst, arith}
use Rattle.std.specs.Prelude.{slice_index_or}
use Rattle.std.proofs.lemmas.Grind.{common_steps}
use Rattle.std.proofs.lemmas.Option.{slice_get_read, slice_get_within, get_or_from_slice_get}
use denote.Exit.{no}
use denote.Param.{param}
use denote.Param.Send.{param_send, param_sync, arg_send, arg_sync, shr_sync}
use Rattle.shared_phase.proofs.Captures.{captures_sync}
use Rattle.std.proofs.Crossing.{sync}
use Rattle.post_office.specs.Seats.{StaysSeat}
use Rattle.post_office.proofs.Sent.{seat_send, post_sync}
use Rattle.shared_phase.proofs.working.work_all.Goals as goal

pub map_vec-requires-send-J : goal.map_vec-requires-send-J
map_vec-requires-send-J g c κs within = param_send 1 _ (arg_send _ no _ (seat_send (param 1 g.row.P) (param 3 g.row.P-Cell) (param 4 g.row.P-Msg) (param 5 g.row.P-Problem) g.P.Phase c.type_bounds.send-P-Cell c.type_bounds.send-P-Msg))

pub map_vec-requires-send-X : goal.map_vec-requires-send-X
map_vec-requires-send-X g c κs within = param_send 2 _ (arg_send _ no _ (seat_send (param 1 g.row.P) (param 3 g.row.P-Cell) (param 4 g.row.P-Msg) (param 5 g.row.P-Problem) g.P.Phase c.type_bounds.send-P-Cell c.type_bounds.send-P-Msg))

pub map_vec-requires-sync-F : goal.map_vec-requires-sync-F
map_vec-requires-sync-F g c κs within =
    let shared = post_sync (param 1 g.row.P) (param 3 g.row.P-Cell) (param 4 g.row.P-Msg) (param 5 g.row.P-Problem) g.P.Phase c.type_bounds.sync-P c.type_bounds.send-P-Cell c.type_bounds.send-P-Msg in
    param_sync 3 _ (arg_sync _ no _ (captures_sync _ _ _ _ _ (shr_sync _ _ _ shared) (shr_sync _ _ _ c.type_bounds.sync-R) (shr_sync _ _ _ sync) (shr_sync _ _ _ c.type_bounds.sync-G)))

pub returns-clause-each : goal.returns-clause-each
returns-clause-each g c = λ i s e.
    let worked = c.in_ok-worked.worked.items in
    let seats = c.args.seats.items in
    let low : i < length worked = slice_get_within worked i s e in
    let same_count : length worked ≡ length seats = first_of (search rules, grind (arith, common_steps)) in
    let below : i < length seats = omega arith in
    let it = (c.in_ok-worked.ensures.each i s below).1 in
    let same : slice_index_or worked i s ≡ s = get_or_from_slice_get worked i s s e in
    let was = c.requires.each i it.job (slice_get_read seats (length seats) i it.job refl below it.job_read) in
    let own = subst (λ r. r.place.table_id ≡ it.job.place.table_id) same it.call.met.0 in
    let stays = subst (λ r. StaysSeat it.job.place.me.0 r.place.me.0) same it.call.met.1.0 in
    let seen = subst (λ r. r.place.me.0.seen ≢ 0) same it.call.met.1.1 in
    (sym s.numbered.0 ∙ (stays.number ∙ (it.job.numbered.0 ∙ was.0)), own ∙ was.1, subst (λ v. StaysSeat v s.place.me.0) was.2 stays, seen)

use Rattle.std.proofs.Common.{rules, ◌≡◌, ◌<◌, ◌≤◌, ◌+◌, ◌*◌, ◌∷◌, ◌++◌, [], ℕ, sym, ap, ◌∙◌, refl, subst, length, arith, Some, append-nil, append_assoc}
use Rattle.std.specs.Prelude.{All, slice_get, slice_index_or}
use Rattle.std.proofs.lemmas.Grind.{common_steps}
use Rattle.std.proofs.lemmas.List.Elements.{All-weaker}
use lib.ListN.{get_elem?}
use Rattle.quiet_table.specs.Contents.{pool}
use Rattle.quiet_table.specs.Views.{hand_of, hand_pool}
use Rattle.quiet_table.specs.Hands.{TurnsFrom, Goes}
use Rattle.post_office.specs.declared.plain.Part.{Part}
use Rattle.post_office.specs.declared.plain.About.{About}
use Rattle.post_office.specs.Shares.{IsFor, Ranked, Sorted}
use Rattle.post_office.specs.Posts.{stood, Standing, Turns, StoodTurn, PartTurn}
use Rattle.post_office.specs.Finds.{finds_of, FoundHeld}
use Rattle.post_office.specs.Visits.{Served}
use Rattle.post_office.proofs.Handling.{read_of, stands_after, turns_perm}
use Rattle.post_office.proofs.Holding.{cell_number, cell_about, cell_stands}
use Rattle.post_office.proofs.Founds.{found_same, own_tried, own_empty_all, Kept, kept_any, kept_then, kept_counted, outgoing}
use Rattle.post_office.proofs.Stopping.{served_stop, stopped_view}
use Rattle.post_office.proofs.post.Post.visit.Goals as goal

pub fetch-served-requires-clause-number : goal.fetch-served-requires-clause-number
fetch-served-requires-clause-number g c =
    let ph = g.P.Phase in
    let law = g.met.P.Phase in
    let sh = c.in-Taken.served in
    let s = c.args.s in
    let post = c.args.self.now in
    let S = post.board.shards in
    let v = c.args.seat.now.place.me.0 in
    let st = stood ph.problem sh.phase.value sh.first.value.items sh.cells.items in
    let es = pool sh.mail.items ++ sh.fresh.items in
    let owners = sh.owners.value.items in
    let a : About g.row.P.Denot g.row.P-Problem.Denot = record { phase = post.phase; problem = ph.problem post.phase post.first.value.items; owners = post.owners.items } in
    let waits0 = length (slice_index_or sh.mail.items sh.shard []) in
    let rest : Part g.row.P.Denot g.row.P-Problem.Denot g.row.P-Cell.Denot = record { owners = owners; shard = sh.shard; waits = waits0; stood = Some st } in
    let hand = hand_of s (record { rest = rest; parcels = es }) in
    let hands = c.take_cell.new.seat.place.me.0.hands in
    let one : hands ≡ hand ∷ [] = ap (λ z. z.hands) c.in-Taken.ensures.told ∙ ap (λ hs. hand ∷ hs) c.requires.bare in
    let at = ap (λ z. get_elem? z 0) one in
    let number = cell_number ph.problem ph.holds ph.weight ph.start_weight S (2 * S) refl _ a c.args.self.now.of_this hands c.in-Taken.ensures.legal s c.requires.within 0 owners sh.shard waits0 st es at in
    let is = cell_about ph.problem ph.holds ph.weight ph.start_weight S (2 * S) refl _ a c.args.self.now.of_this hands c.in-Taken.ensures.legal s c.requires.within 0 owners sh.shard waits0 st es at in
    (number, is.1)

pub fetch-served-requires-clause-stands : goal.fetch-served-requires-clause-stands
fetch-served-requires-clause-stands g c =
    let ph = g.P.Phase in
    let law = g.met.P.Phase in
    let sh = c.in-Taken.served in
    let s = c.args.s in
    let post = c.args.self.now in
    let S = post.board.shards in
    let v = c.args.seat.now.place.me.0 in
    let st = stood ph.problem sh.phase.value sh.first.value.items sh.cells.items in
    let es = pool sh.mail.items ++ sh.fresh.items in
    let owners = sh.owners.value.items in
    let a : About g.row.P.Denot g.row.P-Problem.Denot = record { phase = post.phase; problem = ph.problem post.phase post.first.value.items; owners = post.owners.items } in
    let waits0 = length (slice_index_or sh.mail.items sh.shard []) in
    let rest : Part g.row.P.Denot g.row.P-Problem.Denot g.row.P-Cell.Denot = record { owners = owners; shard = sh.shard; waits = waits0; stood = Some st } in
    let hand = hand_of s (record { rest = rest; parcels = es }) in
    let hands = c.take_cell.new.seat.place.me.0.hands in
    let one : hands ≡ hand ∷ [] = ap (λ z. z.hands) c.in-Taken.ensures.told ∙ ap (λ hs. hand ∷ hs) c.requires.bare in
    let at = ap (λ z. get_elem? z 0) one in
    let number = cell_number ph.problem ph.holds ph.weight ph.start_weight S (2 * S) refl _ a c.args.self.now.of_this hands c.in-Taken.ensures.legal s c.requires.within 0 owners sh.shard waits0 st es at in
    let is = cell_about ph.problem ph.holds ph.weight ph.start_weight S (2 * S) refl _ a c.args.self.now.of_this hands c.in-Taken.ensures.legal s c.requires.within 0 owners sh.shard waits0 st es at in
    subst (Standing ph.problem ph.holds ph.weight ph.start_weight owners s st) (ap hand_pool one ∙ append-nil es) (cell_stands ph.problem ph.holds ph.weight ph.start_weight S (2 * S) refl _ a c.args.self.now.of_this hands c.in-Taken.ensures.legal s c.requires.within 0 owners sh.shard waits0 st es at)

pub serve-served-requires-clause-about : goal.serve-served-requires-clause-about
serve-served-requires-clause-about g c =
    let ph = g.P.Phase in
    let law = g.met.P.Phase in
    let sh = c.in-Taken.served in
    let s = c.args.s in
    let post = c.args.self.now in
    let S = post.board.shards in
    let v = c.args.seat.now.place.me.0 in
    let st = stood ph.problem sh.phase.value sh.first.value.items sh.cells.items in
    let es = pool sh.mail.items ++ sh.fresh.items in
    let owners = sh.owners.value.items in
    let a : About g.row.P.Denot g.row.P-Problem.Denot = record { phase = post.phase; problem = ph.problem post.phase post.first.value.items; owners = post.owners.items } in
    let waits0 = length (slice_index_or sh.mail.items sh.shard []) in
    let rest : Part g.row.P.Denot g.row.P-Problem.Denot g.row.P-Cell.Denot = record { owners = owners; shard = sh.shard; waits = waits0; stood = Some st } in
    let hand = hand_of s (record { rest = rest; parcels = es }) in
    let hands = c.take_cell.new.seat.place.me.0.hands in
    let one : hands ≡ hand ∷ [] = ap (λ z. z.hands) c.in-Taken.ensures.told ∙ ap (λ hs. hand ∷ hs) c.requires.bare in
    let at = ap (λ z. get_elem? z 0) one in
    let number = cell_number ph.problem ph.holds ph.weight ph.start_weight S (2 * S) refl _ a c.args.self.now.of_this hands c.in-Taken.ensures.legal s c.requires.within 0 owners sh.shard waits0 st es at in
    let is = cell_about ph.problem ph.holds ph.weight ph.start_weight S (2 * S) refl _ a c.args.self.now.of_this hands c.in-Taken.ensures.legal s c.requires.within 0 owners sh.shard waits0 st es at in
    let fd = c.fetch-served.result in
    let kf = c.fetch-served.ensures.kept in
    let fes = pool fd.mail.items ++ fd.fresh.items in
    (ap (λ z. z.value) kf.0 ∙ is.0, ap (λ z. z.value.items) kf.2 ∙ (is.1 ∙ sym c.as_slice.ensures.value))

pub serve-served-requires-clause-ranked : goal.serve-served-requires-clause-ranked
serve-served-requires-clause-ranked g c =
    subst (λ o. Ranked o c.as_slice-2.result.now) (sym c.as_slice.ensures.value) (subst (Ranked c.args.self.now.owners.items) (sym c.as_slice-2.ensures.value) c.args.self.now.ranked)

pub serve-served-requires-clause-stands : goal.serve-served-requires-clause-stands
serve-served-requires-clause-stands g c =
    let ph = g.P.Phase in
    let law = g.met.P.Phase in
    let sh = c.in-Taken.served in
    let s = c.args.s in
    let post = c.args.self.now in
    let S = post.board.shards in
    let v = c.args.seat.now.place.me.0 in
    let st = stood ph.problem sh.phase.value sh.first.value.items sh.cells.items in
    let es = pool sh.mail.items ++ sh.fresh.items in
    let owners = sh.owners.value.items in
    let a : About g.row.P.Denot g.row.P-Problem.Denot = record { phase = post.phase; problem = ph.problem post.phase post.first.value.items; owners = post.owners.items } in
    let waits0 = length (slice_index_or sh.mail.items sh.shard []) in
    let rest : Part g.row.P.Denot g.row.P-Problem.Denot g.row.P-Cell.Denot = record { owners = owners; shard = sh.shard; waits = waits0; stood = Some st } in
    let hand = hand_of s (record { rest = rest; parcels = es }) in
    let hands = c.take_cell.new.seat.place.me.0.hands in
    let one : hands ≡ hand ∷ [] = ap (λ z. z.hands) c.in-Taken.ensures.told ∙ ap (λ hs. hand ∷ hs) c.requires.bare in
    let at = ap (λ z. get_elem? z 0) one in
    let number = cell_number ph.problem ph.holds ph.weight ph.start_weight S (2 * S) refl _ a c.args.self.now.of_this hands c.in-Taken.ensures.legal s c.requires.within 0 owners sh.shard waits0 st es at in
    let is = cell_about ph.problem ph.holds ph.weight ph.start_weight S (2 * S) refl _ a c.args.self.now.of_this hands c.in-Taken.ensures.legal s c.requires.within 0 owners sh.shard waits0 st es at in
    let fd = c.fetch-served.result in
    let kf = c.fetch-served.ensures.kept in
    let fes = pool fd.mail.items ++ fd.fresh.items in
    rw (kf.0, kf.1, kf.2, kf.3, kf.4, number) c.fetch-served.ensures.stands

pub count-requires-clause-turn : goal.count-requires-clause-turn
count-requires-clause-turn g c =
    let ph = g.P.Phase in
    let law = g.met.P.Phase in
    let sh = c.in-Taken.served in
    let s = c.args.s in
    let post = c.args.self.now in
    let S = post.board.shards in
    let v = c.args.seat.now.place.me.0 in
    let st = stood ph.problem sh.phase.value sh.first.value.items sh.cells.items in
    let es = pool sh.mail.items ++ sh.fresh.items in
    let owners = sh.owners.value.items in
    let a : About g.row.P.Denot g.row.P-Problem.Denot = record { phase = post.phase; problem = ph.problem post.phase post.first.value.items; owners = post.owners.items } in
    let waits0 = length (slice_index_or sh.mail.items sh.shard []) in
    let rest : Part g.row.P.Denot g.row.P-Problem.Denot g.row.P-Cell.Denot = record { owners = owners; shard = sh.shard; waits = waits0; stood = Some st } in
    let hand = hand_of s (record { rest = rest; parcels = es }) in
    let hands = c.take_cell.new.seat.place.me.0.hands in
    let one : hands ≡ hand ∷ [] = ap (λ z. z.hands) c.in-Taken.ensures.told ∙ ap (λ hs. hand ∷ hs) c.requires.bare in
    let at = ap (λ z. get_elem? z 0) one in
    let number = cell_number ph.problem ph.holds ph.weight ph.start_weight S (2 * S) refl _ a c.args.self.now.of_this hands c.in-Taken.ensures.legal s c.requires.within 0 owners sh.shard waits0 st es at in
    let is = cell_about ph.problem ph.holds ph.weight ph.start_weight S (2 * S) refl _ a c.args.self.now.of_this hands c.in-Taken.ensures.legal s c.requires.within 0 owners sh.shard waits0 st es at in
    let fd = c.fetch-served.result in
    let kf = c.fetch-served.ensures.kept in
    let fes = pool fd.mail.items ++ fd.fresh.items in
    let sv = c.serve-served.result.0 in
    let tally = c.serve-served.result.1 in
    let ks = c.serve-served.ensures.kept in
    let left = pool sv.mail.items ++ sv.fresh.items in
    let st1 = stood ph.problem sh.phase.value sh.first.value.items sv.cells.items in
    let turns : Turns ph.react owners sh.shard st fes tally.sent tally.handled st1 left = rw (← kf.0, ← kf.1, ← kf.2, ← kf.3, ← kf.4) c.serve-served.ensures.turns in
    let held = c.fetch-served.ensures.held in
    let rest_is : Some (stood ph.problem sv.phase.value sv.first.value.items sv.cells.items) ≡ Some st1 = (λ i. Some (stood ph.problem ((ks.0 ∙ kf.0) i).value ((ks.1 ∙ kf.1) i).value.items sv.cells.items)) in
    subst (λ hs. TurnsFrom (PartTurn ph.react) hs tally.sent tally.handled (record { owners = sv.owners.value.items; shard = sv.shard; waits = length (slice_index_or sv.mail.items sv.shard []); stood = Some (stood ph.problem sv.phase.value sv.first.value.items sv.cells.items) }) left) (sym held.1)
    (ap (λ z. z.value.items) (ks.2 ∙ kf.2), ks.3 ∙ kf.3, subst (λ r. StoodTurn ph.react owners sh.shard (Some st) held.0 tally.sent tally.handled r left) (sym rest_is) (turns_perm ph.react owners sh.shard st held.0 fes tally.sent tally.handled st1 left held.2 turns))

pub send-served-requires-clause-number : goal.send-served-requires-clause-number
send-served-requires-clause-number g c =
    let ph = g.P.Phase in
    let law = g.met.P.Phase in
    let sh = c.in-Taken.served in
    let s = c.args.s in
    let post = c.args.self.now in
    let S = post.board.shards in
    let v = c.args.seat.now.place.me.0 in
    let st = stood ph.problem sh.phase.value sh.first.value.items sh.cells.items in
    let es = pool sh.mail.items ++ sh.fresh.items in
    let owners = sh.owners.value.items in
    let a : About g.row.P.Denot g.row.P-Problem.Denot = record { phase = post.phase; problem = ph.problem post.phase post.first.value.items; owners = post.owners.items } in
    let waits0 = length (slice_index_or sh.mail.items sh.shard []) in
    let rest : Part g.row.P.Denot g.row.P-Problem.Denot g.row.P-Cell.Denot = record { owners = owners; shard = sh.shard; waits = waits0; stood = Some st } in
    let hand = hand_of s (record { rest = rest; parcels = es }) in
    let hands = c.take_cell.new.seat.place.me.0.hands in
    let one : hands ≡ hand ∷ [] = ap (λ z. z.hands) c.in-Taken.ensures.told ∙ ap (λ hs. hand ∷ hs) c.requires.bare in
    let at = ap (λ z. get_elem? z 0) one in
    let number = cell_number ph.problem ph.holds ph.weight ph.start_weight S (2 * S) refl _ a c.args.self.now.of_this hands c.in-Taken.ensures.legal s c.requires.within 0 owners sh.shard waits0 st es at in
    let is = cell_about ph.problem ph.holds ph.weight ph.start_weight S (2 * S) refl _ a c.args.self.now.of_this hands c.in-Taken.ensures.legal s c.requires.within 0 owners sh.shard waits0 st es at in
    let fd = c.fetch-served.result in
    let kf = c.fetch-served.ensures.kept in
    let fes = pool fd.mail.items ++ fd.fresh.items in
    let sv = c.serve-served.result.0 in
    let tally = c.serve-served.result.1 in
    let ks = c.serve-served.ensures.kept in
    let left = pool sv.mail.items ++ sv.fresh.items in
    let st1 = stood ph.problem sh.phase.value sh.first.value.items sv.cells.items in
    let turns : Turns ph.react owners sh.shard st fes tally.sent tally.handled st1 left = rw (← kf.0, ← kf.1, ← kf.2, ← kf.3, ← kf.4) c.serve-served.ensures.turns in
    (ks.3 ∙ (kf.3 ∙ number), ap (λ z. z.value.items) (ks.2 ∙ kf.2) ∙ is.1)

pub returns-then-not-tally-clause-visited : goal.returns-then-not-tally-clause-visited
returns-then-not-tally-clause-visited g c =
    let ph = g.P.Phase in
    let law = g.met.P.Phase in
    let sh = c.in-Taken.served in
    let s = c.args.s in
    let post = c.args.self.now in
    let S = post.board.shards in
    let v = c.args.seat.now.place.me.0 in
    let st = stood ph.problem sh.phase.value sh.first.value.items sh.cells.items in
    let es = pool sh.mail.items ++ sh.fresh.items in
    let owners = sh.owners.value.items in
    let a : About g.row.P.Denot g.row.P-Problem.Denot = record { phase = post.phase; problem = ph.problem post.phase post.first.value.items; owners = post.owners.items } in
    let waits0 = length (slice_index_or sh.mail.items sh.shard []) in
    let rest : Part g.row.P.Denot g.row.P-Problem.Denot g.row.P-Cell.Denot = record { owners = owners; shard = sh.shard; waits = waits0; stood = Some st } in
    let hand = hand_of s (record { rest = rest; parcels = es }) in
    let hands = c.take_cell.new.seat.place.me.0.hands in
    let one : hands ≡ hand ∷ [] = ap (λ z. z.hands) c.in-Taken.ensures.told ∙ ap (λ hs. hand ∷ hs) c.requires.bare in
    let at = ap (λ z. get_elem? z 0) one in
    let number = cell_number ph.problem ph.holds ph.weight ph.start_weight S (2 * S) refl _ a c.args.self.now.of_this hands c.in-Taken.ensures.legal s c.requires.within 0 owners sh.shard waits0 st es at in
    let is = cell_about ph.problem ph.holds ph.weight ph.start_weight S (2 * S) refl _ a c.args.self.now.of_this hands c.in-Taken.ensures.legal s c.requires.within 0 owners sh.shard waits0 st es at in
    let fd = c.fetch-served.result in
    let kf = c.fetch-served.ensures.kept in
    let fes = pool fd.mail.items ++ fd.fresh.items in
    let sv = c.serve-served.result.0 in
    let tally = c.serve-served.result.1 in
    let ks = c.serve-served.ensures.kept in
    let left = pool sv.mail.items ++ sv.fresh.items in
    let st1 = stood ph.problem sh.phase.value sh.first.value.items sv.cells.items in
    let turns : Turns ph.react owners sh.shard st fes tally.sent tally.handled st1 left = rw (← kf.0, ← kf.1, ← kf.2, ← kf.3, ← kf.4) c.serve-served.ensures.turns in
    let fin = c.send-served.result in
    let ke = c.send-served.ensures.kept in
    let vt = c.take_cell.new.seat.place.me.0 in
    let vf = c.fetch-served.new.seat.place.me.0 in
    let vc = c.count.new.seat.place.me.0 in
    let vs = c.send-served.new.seat.place.me.0 in
    let w = c.give_cell.new.seat.place.me.0 in
    let remain = pool fin.mail.items ++ fin.fresh.items in
    let waits = length (slice_index_or fin.mail.items fin.shard []) in
    let tried = c.fetch-served.ensures.tried in
    let sent = c.send-served.ensures.gave in
    let told = c.in-Taken.ensures.told in
    let settled = c.count.ensures.settled in
    let given = c.give_cell.ensures.given in
    let turns_s : Turns ph.react owners s st fes tally.sent tally.handled st1 left = subst (λ n. Turns ph.react owners n st fes tally.sent tally.handled st1 left) number turns in
    let held = c.send-served.ensures.held in
    let none : w.hands ≡ [] = subst (λ hs. Goes hs (record { rest = record { owners = fin.owners.value.items; shard = fin.shard; waits = waits; stood = Some (stood ph.problem fin.phase.value fin.first.value.items fin.cells.items) }; parcels = remain }) w.hands) held.1 c.give_cell.ensures.goes in
    let hands_same : w.hands ≡ v.hands = none ∙ sym c.requires.bare in
    let p_phase = ke.0 ∙ (ks.0 ∙ kf.0) in
    let p_first = ke.1 ∙ (ks.1 ∙ kf.1) in
    let p_owners = ke.2 ∙ (ks.2 ∙ kf.2) in
    let p_shard = ke.3 ∙ (ks.3 ∙ (kf.3 ∙ number)) in
    let rest_path : hand_of s (record { rest = record { owners = fin.owners.value.items; shard = fin.shard; waits = waits; stood = Some (stood ph.problem fin.phase.value fin.first.value.items fin.cells.items) }; parcels = remain }) ≡ hand_of s (record { rest = record { owners = owners; shard = s; waits = waits; stood = Some st1 }; parcels = remain }) =
    (λ i. hand_of s (record { rest = record { owners = (p_owners i).value.items; shard = p_shard i; waits = waits; stood = Some (stood ph.problem (p_phase i).value (p_first i).value.items (ke.4 i).items) }; parcels = remain })) in
    let boxes = sent.0 ++ tried.0 in
    let gave_send : vs.gave ≡ boxes ++ v.gave = sent.1 ∙ (ap (λ l. sent.0 ++ l) (ap (λ z. z.gave) settled ∙ (tried.1 ∙ ap (λ l. tried.0 ++ l) (ap (λ z. z.gave) told))) ∙ sym (append_assoc sent.0 tried.0 v.gave)) in
    let gave_is = ap (λ z. z.gave) given ∙ (ap (λ h. h ∷ vs.gave) rest_path ∙ ap (λ l. hand_of s (record { rest = record { owners = owners; shard = s; waits = waits; stood = Some st1 }; parcels = remain }) ∷ l) gave_send) in
    let f_first : (k : ℕ) → finds_of k v.finds ≤ finds_of k vt.finds = found_same vt.finds v.finds (ap (λ z. z.finds) told) in
    let f_count : (k : ℕ) → finds_of k vf.finds ≤ finds_of k vc.finds = found_same vc.finds vf.finds (ap (λ z. z.finds) settled) in
    let f_give : (k : ℕ) → finds_of k vs.finds ≤ finds_of k w.finds = found_same w.finds vs.finds (ap (λ z. z.finds) given) in
    let f_end : (k : ℕ) → finds_of k vf.finds ≤ finds_of k w.finds = (λ k. omega (arith, f_count k, c.send-served.ensures.finds k, f_give k)) in
    let f_start : (k : ℕ) → finds_of k v.finds ≤ finds_of k vc.finds = (λ k. omega (arith, f_first k, c.fetch-served.ensures.finds k, f_count k)) in
    let legal_after = stands_after ph.problem ph.holds ph.weight ph.start_weight ph.react (record { keeps = law.keeps; lowers = law.lowers; same = law.same_problem; order = law.holds_in_any_order; same_weight = law.weighs_in_any_order; addressed = law.addressed; small = law.start_weight_fits }) owners s st fes tally.sent tally.handled st1 left c.fetch-served.ensures.stands turns_s in
    let served : Served ph.problem ph.holds ph.weight ph.start_weight ph.react S s v w tally.handled tally.sent c.load-left.result = record {
      owners = owners;
      before = st;
      waited = fes;
      after = st1;
      counted = left;
      remain = remain;
      waits = waits;
      boxes = boxes;
      legal_before = c.fetch-served.ensures.stands;
      turns = turns_s;
      legal_after = legal_after;
      given = gave_is;
      left_is = c.load-left.ensures.count;
      own_box = own_tried (S + s) v.finds vt.finds vf.finds w.finds sent.0 tried.0 (f_first (S + s)) (f_end (S + s)) tried.2;
      own_empty = own_empty_all (S + s) sent.0 tried.0 sent.2 tried.3;
      hands = hands_same;
    } in
    let kept_take : Kept v vt = kept_any v vt vt.hands v.finds v.gave (told ∙ (λ i. record v { hands = (sym (ap (λ z. z.hands) told)) i })) in
    let kept_give : Kept vs w = kept_any vs w w.hands vs.finds w.gave (given ∙ (λ i. record vs { hands = w.hands; gave = (sym (ap (λ z. z.gave) given)) i })) in
    let counted = v.handled + tally.handled in
    let whole : w ≡ record v { handled = counted; hands = w.hands; finds = w.finds; gave = w.gave } = kept_counted v vf vc w _ tally.handled (kept_then v vt vf kept_take c.fetch-served.ensures.rest) settled (kept_then vc vs w c.send-served.ensures.rest kept_give) in
    let same : w ≡ record v { handled = counted; finds = w.finds; gave = w.gave } = whole ∙ (λ i. record v { handled = counted; hands = hands_same i; finds = w.finds; gave = w.gave }) in
    let x = c.stop-verdict.new.seat.place.me.0 in
    let stop = c.stop-verdict.ensures.told in
    let stopped : Served ph.problem ph.holds ph.weight ph.start_weight ph.react S s v x tally.handled tally.sent c.load-left.result = served_stop ph.problem ph.holds ph.weight ph.start_weight ph.react S s v w x tally.handled tally.sent c.load-left.result served (ap (λ z. z.gave) stop) (ap (λ z. z.finds) stop) (ap (λ z. z.hands) stop) in
    let seen_is = ap (λ z. z.seen) stop in
    let all : x ≡ record v { handled = counted; finds = x.finds; gave = x.gave; stops = v.stops + 1; seen = x.seen } = stopped_view v w x counted _ same stop in
    (tally.handled, tally.sent, c.load-left.result, stopped, all, (λ z. c.stop-verdict.ensures.set (sym seen_is ∙ z)), (λ n. seen_is ∙ (c.stop-verdict.ensures.again (λ z. n (sym (ap (λ y. y.seen) same) ∙ z)) ∙ ap (λ y. y.seen) same)))

pub returns-clause-visited : goal.returns-clause-visited
returns-clause-visited g c =
    let ph = g.P.Phase in
    let law = g.met.P.Phase in
    let sh = c.in-Taken.served in
    let s = c.args.s in
    let post = c.args.self.now in
    let S = post.board.shards in
    let v = c.args.seat.now.place.me.0 in
    let st = stood ph.problem sh.phase.value sh.first.value.items sh.cells.items in
    let es = pool sh.mail.items ++ sh.fresh.items in
    let owners = sh.owners.value.items in
    let a : About g.row.P.Denot g.row.P-Problem.Denot = record { phase = post.phase; problem = ph.problem post.phase post.first.value.items; owners = post.owners.items } in
    let waits0 = length (slice_index_or sh.mail.items sh.shard []) in
    let rest : Part g.row.P.Denot g.row.P-Problem.Denot g.row.P-Cell.Denot = record { owners = owners; shard = sh.shard; waits = waits0; stood = Some st } in
    let hand = hand_of s (record { rest = rest; parcels = es }) in
    let hands = c.take_cell.new.seat.place.me.0.hands in
    let one : hands ≡ hand ∷ [] = ap (λ z. z.hands) c.in-Taken.ensures.told ∙ ap (λ hs. hand ∷ hs) c.requires.bare in
    let at = ap (λ z. get_elem? z 0) one in
    let number = cell_number ph.problem ph.holds ph.weight ph.start_weight S (2 * S) refl _ a c.args.self.now.of_this hands c.in-Taken.ensures.legal s c.requires.within 0 owners sh.shard waits0 st es at in
    let is = cell_about ph.problem ph.holds ph.weight ph.start_weight S (2 * S) refl _ a c.args.self.now.of_this hands c.in-Taken.ensures.legal s c.requires.within 0 owners sh.shard waits0 st es at in
    let fd = c.fetch-served.result in
    let kf = c.fetch-served.ensures.kept in
    let fes = pool fd.mail.items ++ fd.fresh.items in
    let sv = c.serve-served.result.0 in
    let tally = c.serve-served.result.1 in
    let ks = c.serve-served.ensures.kept in
    let left = pool sv.mail.items ++ sv.fresh.items in
    let st1 = stood ph.problem sh.phase.value sh.first.value.items sv.cells.items in
    let turns : Turns ph.react owners sh.shard st fes tally.sent tally.handled st1 left = rw (← kf.0, ← kf.1, ← kf.2, ← kf.3, ← kf.4) c.serve-served.ensures.turns in
    let fin = c.send-served.result in
    let ke = c.send-served.ensures.kept in
    let vt = c.take_cell.new.seat.place.me.0 in
    let vf = c.fetch-served.new.seat.place.me.0 in
    let vc = c.count.new.seat.place.me.0 in
    let vs = c.send-served.new.seat.place.me.0 in
    let w = c.give_cell.new.seat.place.me.0 in
    let remain = pool fin.mail.items ++ fin.fresh.items in
    let waits = length (slice_index_or fin.mail.items fin.shard []) in
    let tried = c.fetch-served.ensures.tried in
    let sent = c.send-served.ensures.gave in
    let told = c.in-Taken.ensures.told in
    let settled = c.count.ensures.settled in
    let given = c.give_cell.ensures.given in
    let turns_s : Turns ph.react owners s st fes tally.sent tally.handled st1 left = subst (λ n. Turns ph.react owners n st fes tally.sent tally.handled st1 left) number turns in
    let held = c.send-served.ensures.held in
    let none : w.hands ≡ [] = subst (λ hs. Goes hs (record { rest = record { owners = fin.owners.value.items; shard = fin.shard; waits = waits; stood = Some (stood ph.problem fin.phase.value fin.first.value.items fin.cells.items) }; parcels = remain }) w.hands) held.1 c.give_cell.ensures.goes in
    let hands_same : w.hands ≡ v.hands = none ∙ sym c.requires.bare in
    let p_phase = ke.0 ∙ (ks.0 ∙ kf.0) in
    let p_first = ke.1 ∙ (ks.1 ∙ kf.1) in
    let p_owners = ke.2 ∙ (ks.2 ∙ kf.2) in
    let p_shard = ke.3 ∙ (ks.3 ∙ (kf.3 ∙ number)) in
    let rest_path : hand_of s (record { rest = record { owners = fin.owners.value.items; shard = fin.shard; waits = waits; stood = Some (stood ph.problem fin.phase.value fin.first.value.items fin.cells.items) }; parcels = remain }) ≡ hand_of s (record { rest = record { owners = owners; shard = s; waits = waits; stood = Some st1 }; parcels = remain }) =
    (λ i. hand_of s (record { rest = record { owners = (p_owners i).value.items; shard = p_shard i; waits = waits; stood = Some (stood ph.problem (p_phase i).value (p_first i).value.items (ke.4 i).items) }; parcels = remain })) in
    let boxes = sent.0 ++ tried.0 in
    let gave_send : vs.gave ≡ boxes ++ v.gave = sent.1 ∙ (ap (λ l. sent.0 ++ l) (ap (λ z. z.gave) settled ∙ (tried.1 ∙ ap (λ l. tried.0 ++ l) (ap (λ z. z.gave) told))) ∙ sym (append_assoc sent.0 tried.0 v.gave)) in
    let gave_is = ap (λ z. z.gave) given ∙ (ap (λ h. h ∷ vs.gave) rest_path ∙ ap (λ l. hand_of s (record { rest = record { owners = owners; shard = s; waits = waits; stood = Some st1 }; parcels = remain }) ∷ l) gave_send) in
    let f_first : (k : ℕ) → finds_of k v.finds ≤ finds_of k vt.finds = found_same vt.finds v.finds (ap (λ z. z.finds) told) in
    let f_count : (k : ℕ) → finds_of k vf.finds ≤ finds_of k vc.finds = found_same vc.finds vf.finds (ap (λ z. z.finds) settled) in
    let f_give : (k : ℕ) → finds_of k vs.finds ≤ finds_of k w.finds = found_same w.finds vs.finds (ap (λ z. z.finds) given) in
    let f_end : (k : ℕ) → finds_of k vf.finds ≤ finds_of k w.finds = (λ k. omega (arith, f_count k, c.send-served.ensures.finds k, f_give k)) in
    let f_start : (k : ℕ) → finds_of k v.finds ≤ finds_of k vc.finds = (λ k. omega (arith, f_first k, c.fetch-served.ensures.finds k, f_count k)) in
    let legal_after = stands_after ph.problem ph.holds ph.weight ph.start_weight ph.react (record { keeps = law.keeps; lowers = law.lowers; same = law.same_problem; order = law.holds_in_any_order; same_weight = law.weighs_in_any_order; addressed = law.addressed; small = law.start_weight_fits }) owners s st fes tally.sent tally.handled st1 left c.fetch-served.ensures.stands turns_s in
    let served : Served ph.problem ph.holds ph.weight ph.start_weight ph.react S s v w tally.handled tally.sent c.load-left.result = record {
      owners = owners;
      before = st;
      waited = fes;
      after = st1;
      counted = left;
      remain = remain;
      waits = waits;
      boxes = boxes;
      legal_before = c.fetch-served.ensures.stands;
      turns = turns_s;
      legal_after = legal_after;
      given = gave_is;
      left_is = c.load-left.ensures.count;
      own_box = own_tried (S + s) v.finds vt.finds vf.finds w.finds sent.0 tried.0 (f_first (S + s)) (f_end (S + s)) tried.2;
      own_empty = own_empty_all (S + s) sent.0 tried.0 sent.2 tried.3;
      hands = hands_same;
    } in
    let kept_take : Kept v vt = kept_any v vt vt.hands v.finds v.gave (told ∙ (λ i. record v { hands = (sym (ap (λ z. z.hands) told)) i })) in
    let kept_give : Kept vs w = kept_any vs w w.hands vs.finds w.gave (given ∙ (λ i. record vs { hands = w.hands; gave = (sym (ap (λ z. z.gave) given)) i })) in
    let counted = v.handled + tally.handled in
    let whole : w ≡ record v { handled = counted; hands = w.hands; finds = w.finds; gave = w.gave } = kept_counted v vf vc w _ tally.handled (kept_then v vt vf kept_take c.fetch-served.ensures.rest) settled (kept_then vc vs w c.send-served.ensures.rest kept_give) in
    let same : w ≡ record v { handled = counted; finds = w.finds; gave = w.gave } = whole ∙ (λ i. record v { handled = counted; hands = hands_same i; finds = w.finds; gave = w.gave }) in
    let all = c.serve-served.ensures.whole (first_of (search rules, grind (arith, common_steps))) in
    let none_waits : slice_get fin.mail.items s ≡ Some [] = c.send-served.ensures.waiting ∙ (ap (λ n. slice_get sv.mail.items n) (sym (kf.3 ∙ number)) ∙ all.0) in
    let fresh_none : fin.fresh.items ≡ [] = ap (λ z. z.items) ke.5 ∙ all.1 in
    let remain_is : remain ≡ pool fin.mail.items = ap (λ l. pool fin.mail.items ++ l) fresh_none ∙ append-nil (pool fin.mail.items) in
    let owners_fin : fin.owners.value.items ≡ owners = ap (λ z. z.value.items) p_owners in
    let goes = outgoing owners S s fin.mail.items vc.finds vs.finds (subst (λ o. Sorted o fin.mail.items) owners_fin fin.sorted) (subst (All (λ o. o < S)) (sym is.1) post.owned) none_waits c.send-served.ensures.gone in
    let wider : (e : _) → ((t : ℕ) × IsFor owners t e × FoundHeld (S + t) vc.finds vs.finds) → (t : ℕ) × IsFor owners t e × FoundHeld (S + t) v.finds w.finds = (λ e h. (h.0, h.1, omega (arith, f_start (S + h.0), f_give (S + h.0), h.2))) in (
      served,
      ap length (ap (λ n. slice_index_or fin.mail.items n []) p_shard ∙ read_of fin.mail.items s [] [] none_waits),
      subst (All (λ e. (t : ℕ) × IsFor owners t e × FoundHeld (S + t) v.finds w.finds)) (sym remain_is) (All-weaker (λ e. (t : ℕ) × IsFor owners t e × FoundHeld (S + t) vc.finds vs.finds) (λ e. (t : ℕ) × IsFor owners t e × FoundHeld (S + t) v.finds w.finds) wider (pool fin.mail.items) goes),
      same,
    )

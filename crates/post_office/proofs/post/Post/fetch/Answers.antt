use Rattle.std.proofs.Common.{◌≡◌, ◌+◌, ◌*◌, ◌∷◌, ◌++◌, [], sym, ap, ◌∙◌, refl, subst, length, arith, Some, None, inl, inr, length-append, append-nil}
use Rattle.std.specs.Prelude.{IsPermutation, slice_index_or}
use Rattle.std.proofs.lemmas.List.Elements.{All-nil, All-cons}
use Rattle.std.proofs.lemmas.List.Sorted.{IsPermutation-sym}
use lib.ListN.{get_elem?}
use Rattle.quiet_table.specs.Contents.{Contents, pool}
use Rattle.quiet_table.specs.Views.{hand_of, hand_pool}
use Rattle.quiet_table.specs.Hands.{MayGive, Goes}
use Rattle.post_office.specs.declared.plain.Part.{Part}
use Rattle.post_office.specs.declared.plain.About.{About}
use Rattle.post_office.specs.Posts.{stood}
use Rattle.post_office.proofs.Lists.{pool_merge}
use Rattle.post_office.proofs.Founds.{found_more}
use Rattle.post_office.proofs.Handling.{stands_perm}
use Rattle.post_office.proofs.Holding.{box_about, cell_stands, few_held}
use Rattle.post_office.proofs.post.Post.fetch.Goals as goal

pub merge-served-requires-clause-same : goal.merge-served-requires-clause-same
merge-served-requires-clause-same g c =
    let ph = g.P.Phase in
    let law = g.met.P.Phase in
    let sh = c.args.served in
    let s = c.args.s in
    let S = c.args.self.now.board.shards in
    let post = c.args.self.now in
    let st = stood ph.problem sh.phase.value sh.first.value.items sh.cells.items in
    let es = pool sh.mail.items ++ sh.fresh.items in
    let a : About g.row.P.Denot g.row.P-Problem.Denot = record { phase = post.phase; problem = ph.problem post.phase post.first.value.items; owners = post.owners.items } in
    let waits = length (slice_index_or sh.mail.items sh.shard []) in
    let inbox = c.in-Taken.inbox in
    let b = inbox.envelopes in
    let hands = c.take_box.new.seat.place.me.0.hands in
    let rest : Part g.row.P.Denot g.row.P-Problem.Denot g.row.P-Cell.Denot = record { owners = sh.owners.value.items; shard = sh.shard; waits = waits; stood = Some st } in
    let box_rest : Part g.row.P.Denot g.row.P-Problem.Denot g.row.P-Cell.Denot = record { owners = inbox.owners.value.items; shard = inbox.shard; waits = 0; stood = None } in
    let hc = hand_of s (record { rest = rest; parcels = es }) in
    let hb = hand_of (S + s) (record { rest = box_rest; parcels = b }) in
    let two : hands ≡ hb ∷ hc ∷ [] = ap (λ z. z.hands) c.in-Taken.ensures.told ∙ ap (λ hs. hb ∷ hs) c.requires.held in
    let isb = box_about ph.problem ph.holds ph.weight ph.start_weight S (2 * S) refl _ a c.args.self.now.of_this hands c.in-Taken.ensures.legal s c.requires.within 0 inbox.owners.value.items inbox.shard 0 b (ap (λ z. get_elem? z 0) two) in
    let pool_is : hand_pool hands ≡ b ++ es = ap hand_pool two ∙ ap (λ z. b ++ z) (append-nil es) in
    (isb.1 ∙ sym c.requires.number.1, isb.0 ∙ sym c.requires.number.0)

pub merge-served-requires-clause-few : goal.merge-served-requires-clause-few
merge-served-requires-clause-few g c =
    let ph = g.P.Phase in
    let law = g.met.P.Phase in
    let sh = c.args.served in
    let s = c.args.s in
    let S = c.args.self.now.board.shards in
    let post = c.args.self.now in
    let st = stood ph.problem sh.phase.value sh.first.value.items sh.cells.items in
    let es = pool sh.mail.items ++ sh.fresh.items in
    let a : About g.row.P.Denot g.row.P-Problem.Denot = record { phase = post.phase; problem = ph.problem post.phase post.first.value.items; owners = post.owners.items } in
    let waits = length (slice_index_or sh.mail.items sh.shard []) in
    let inbox = c.in-Taken.inbox in
    let b = inbox.envelopes in
    let hands = c.take_box.new.seat.place.me.0.hands in
    let rest : Part g.row.P.Denot g.row.P-Problem.Denot g.row.P-Cell.Denot = record { owners = sh.owners.value.items; shard = sh.shard; waits = waits; stood = Some st } in
    let box_rest : Part g.row.P.Denot g.row.P-Problem.Denot g.row.P-Cell.Denot = record { owners = inbox.owners.value.items; shard = inbox.shard; waits = 0; stood = None } in
    let hc = hand_of s (record { rest = rest; parcels = es }) in
    let hb = hand_of (S + s) (record { rest = box_rest; parcels = b }) in
    let two : hands ≡ hb ∷ hc ∷ [] = ap (λ z. z.hands) c.in-Taken.ensures.told ∙ ap (λ hs. hb ∷ hs) c.requires.held in
    let isb = box_about ph.problem ph.holds ph.weight ph.start_weight S (2 * S) refl _ a c.args.self.now.of_this hands c.in-Taken.ensures.legal s c.requires.within 0 inbox.owners.value.items inbox.shard 0 b (ap (λ z. get_elem? z 0) two) in
    let pool_is : hand_pool hands ≡ b ++ es = ap hand_pool two ∙ ap (λ z. b ++ z) (append-nil es) in
    let few = few_held ph.problem ph.holds ph.weight ph.start_weight ph.react (record { keeps = law.keeps; lowers = law.lowers; same = law.same_problem; order = law.holds_in_any_order; same_weight = law.weighs_in_any_order; addressed = law.addressed; small = law.start_weight_fits }) (2 * S) _ hands c.in-Taken.ensures.legal in
    let n = ap length pool_is in
    let m = length-append b es in
    let o = length-append (pool sh.mail.items) sh.fresh.items in
    omega (arith, few, n, m, o)

pub give_box-requires-clause-may : goal.give_box-requires-clause-may
give_box-requires-clause-may g c =
    let ph = g.P.Phase in
    let law = g.met.P.Phase in
    let sh = c.args.served in
    let s = c.args.s in
    let S = c.args.self.now.board.shards in
    let post = c.args.self.now in
    let st = stood ph.problem sh.phase.value sh.first.value.items sh.cells.items in
    let es = pool sh.mail.items ++ sh.fresh.items in
    let a : About g.row.P.Denot g.row.P-Problem.Denot = record { phase = post.phase; problem = ph.problem post.phase post.first.value.items; owners = post.owners.items } in
    let waits = length (slice_index_or sh.mail.items sh.shard []) in
    let inbox = c.in-Taken.inbox in
    let b = inbox.envelopes in
    let hands = c.take_box.new.seat.place.me.0.hands in
    let rest : Part g.row.P.Denot g.row.P-Problem.Denot g.row.P-Cell.Denot = record { owners = sh.owners.value.items; shard = sh.shard; waits = waits; stood = Some st } in
    let box_rest : Part g.row.P.Denot g.row.P-Problem.Denot g.row.P-Cell.Denot = record { owners = inbox.owners.value.items; shard = inbox.shard; waits = 0; stood = None } in
    let hc = hand_of s (record { rest = rest; parcels = es }) in
    let hb = hand_of (S + s) (record { rest = box_rest; parcels = b }) in
    let two : hands ≡ hb ∷ hc ∷ [] = ap (λ z. z.hands) c.in-Taken.ensures.told ∙ ap (λ hs. hb ∷ hs) c.requires.held in
    let isb = box_about ph.problem ph.holds ph.weight ph.start_weight S (2 * S) refl _ a c.args.self.now.of_this hands c.in-Taken.ensures.legal s c.requires.within 0 inbox.owners.value.items inbox.shard 0 b (ap (λ z. get_elem? z 0) two) in
    let pool_is : hand_pool hands ≡ b ++ es = ap hand_pool two ∙ ap (λ z. b ++ z) (append-nil es) in
    let call = c.merge-served in
    let mail2 = call.result.0.mail.items in
    let fresh2 = call.result.0.fresh.items in
    let b2 = call.result.1.envelopes in
    let moved = call.ensures.moved in
    let emptied = call.ensures.emptied in
    let fresh_is : fresh2 ≡ sh.fresh.items = ap (λ z. z.items) call.ensures.kept.5 in
    let box2 = call.result.1 in
    let rest_is : (record { owners = box2.owners.value.items; shard = box2.shard; waits = 0; stood = None }) ≡ box_rest = (λ i. record { owners = (emptied.1 i).value.items; shard = emptied.2 i; waits = 0; stood = None }) in
    let perm : IsPermutation (b ++ es) (b2 ++ (pool mail2 ++ fresh2)) =
    rw emptied.0 (subst (λ z. IsPermutation (b ++ es) (pool mail2 ++ z)) (sym fresh_is) (subst (λ z. IsPermutation (b ++ es) (pool z ++ sh.fresh.items)) (sym moved.2) (pool_merge sh.mail.items sh.shard moved.0 b sh.fresh.items moved.1))) in
    subst (λ hs. MayGive hs (record { rest = record { owners = box2.owners.value.items; shard = box2.shard; waits = 0; stood = None }; parcels = b2 })) (sym two) (rest_is, (pool mail2 ++ fresh2, perm))

pub returns-in-Held-clause-tried : goal.returns-in-Held-clause-tried
returns-in-Held-clause-tried g c =
    let ph = g.P.Phase in
    let law = g.met.P.Phase in
    let sh = c.args.served in
    let s = c.args.s in
    let S = c.args.self.now.board.shards in
    let post = c.args.self.now in
    let st = stood ph.problem sh.phase.value sh.first.value.items sh.cells.items in
    let es = pool sh.mail.items ++ sh.fresh.items in
    let a : About g.row.P.Denot g.row.P-Problem.Denot = record { phase = post.phase; problem = ph.problem post.phase post.first.value.items; owners = post.owners.items } in
    let waits = length (slice_index_or sh.mail.items sh.shard []) in
    ([], ap (λ z. z.gave) c.in-Held.ensures.told.2, inl (found_more (S + s) c.in-Held.turn _ _ (ap (λ z. z.finds) c.in-Held.ensures.told.2)), All-nil _)

pub returns-in-Taken-clause-held : goal.returns-in-Taken-clause-held
returns-in-Taken-clause-held g c =
    let ph = g.P.Phase in
    let law = g.met.P.Phase in
    let sh = c.args.served in
    let s = c.args.s in
    let S = c.args.self.now.board.shards in
    let post = c.args.self.now in
    let st = stood ph.problem sh.phase.value sh.first.value.items sh.cells.items in
    let es = pool sh.mail.items ++ sh.fresh.items in
    let a : About g.row.P.Denot g.row.P-Problem.Denot = record { phase = post.phase; problem = ph.problem post.phase post.first.value.items; owners = post.owners.items } in
    let waits = length (slice_index_or sh.mail.items sh.shard []) in
    let inbox = c.in-Taken.inbox in
    let b = inbox.envelopes in
    let hands = c.take_box.new.seat.place.me.0.hands in
    let rest : Part g.row.P.Denot g.row.P-Problem.Denot g.row.P-Cell.Denot = record { owners = sh.owners.value.items; shard = sh.shard; waits = waits; stood = Some st } in
    let box_rest : Part g.row.P.Denot g.row.P-Problem.Denot g.row.P-Cell.Denot = record { owners = inbox.owners.value.items; shard = inbox.shard; waits = 0; stood = None } in
    let hc = hand_of s (record { rest = rest; parcels = es }) in
    let hb = hand_of (S + s) (record { rest = box_rest; parcels = b }) in
    let two : hands ≡ hb ∷ hc ∷ [] = ap (λ z. z.hands) c.in-Taken.ensures.told ∙ ap (λ hs. hb ∷ hs) c.requires.held in
    let isb = box_about ph.problem ph.holds ph.weight ph.start_weight S (2 * S) refl _ a c.args.self.now.of_this hands c.in-Taken.ensures.legal s c.requires.within 0 inbox.owners.value.items inbox.shard 0 b (ap (λ z. get_elem? z 0) two) in
    let pool_is : hand_pool hands ≡ b ++ es = ap hand_pool two ∙ ap (λ z. b ++ z) (append-nil es) in
    let call = c.merge-served in
    let mail2 = call.result.0.mail.items in
    let fresh2 = call.result.0.fresh.items in
    let b2 = call.result.1.envelopes in
    let moved = call.ensures.moved in
    let emptied = call.ensures.emptied in
    let fresh_is : fresh2 ≡ sh.fresh.items = ap (λ z. z.items) call.ensures.kept.5 in
    let box2 = call.result.1 in
    let rest_is : (record { owners = box2.owners.value.items; shard = box2.shard; waits = 0; stood = None }) ≡ box_rest = (λ i. record { owners = (emptied.1 i).value.items; shard = emptied.2 i; waits = 0; stood = None }) in
    let perm : IsPermutation (b ++ es) (b2 ++ (pool mail2 ++ fresh2)) =
    rw emptied.0 (subst (λ z. IsPermutation (b ++ es) (pool mail2 ++ z)) (sym fresh_is) (subst (λ z. IsPermutation (b ++ es) (pool z ++ sh.fresh.items)) (sym moved.2) (pool_merge sh.mail.items sh.shard moved.0 b sh.fresh.items moved.1))) in
    let given : Contents (Part g.row.P.Denot g.row.P-Problem.Denot g.row.P-Cell.Denot) _ = record { rest = record { owners = box2.owners.value.items; shard = box2.shard; waits = 0; stood = None }; parcels = b2 } in
    let hs2 = c.give_box.new.seat.place.me.0.hands in
    let goes = subst (λ hs. Goes hs given hs2) two c.give_box.ensures.goes in
    let stays = c.give_box.ensures.stays (pool mail2 ++ fresh2) (subst (λ z. IsPermutation z (b2 ++ (pool mail2 ++ fresh2))) (sym pool_is) perm) in
    let left_is : hand_pool hs2 ≡ goes.0 = ap hand_pool goes.2 ∙ append-nil goes.0 in
    let same : IsPermutation goes.0 (pool mail2 ++ fresh2) = subst (λ z. IsPermutation z (pool mail2 ++ fresh2)) left_is (IsPermutation-sym _ _ stays) in
    (goes.0, goes.2, same)

pub returns-in-Taken-clause-stands : goal.returns-in-Taken-clause-stands
returns-in-Taken-clause-stands g c =
    let ph = g.P.Phase in
    let law = g.met.P.Phase in
    let sh = c.args.served in
    let s = c.args.s in
    let S = c.args.self.now.board.shards in
    let post = c.args.self.now in
    let st = stood ph.problem sh.phase.value sh.first.value.items sh.cells.items in
    let es = pool sh.mail.items ++ sh.fresh.items in
    let a : About g.row.P.Denot g.row.P-Problem.Denot = record { phase = post.phase; problem = ph.problem post.phase post.first.value.items; owners = post.owners.items } in
    let waits = length (slice_index_or sh.mail.items sh.shard []) in
    let inbox = c.in-Taken.inbox in
    let b = inbox.envelopes in
    let hands = c.take_box.new.seat.place.me.0.hands in
    let rest : Part g.row.P.Denot g.row.P-Problem.Denot g.row.P-Cell.Denot = record { owners = sh.owners.value.items; shard = sh.shard; waits = waits; stood = Some st } in
    let box_rest : Part g.row.P.Denot g.row.P-Problem.Denot g.row.P-Cell.Denot = record { owners = inbox.owners.value.items; shard = inbox.shard; waits = 0; stood = None } in
    let hc = hand_of s (record { rest = rest; parcels = es }) in
    let hb = hand_of (S + s) (record { rest = box_rest; parcels = b }) in
    let two : hands ≡ hb ∷ hc ∷ [] = ap (λ z. z.hands) c.in-Taken.ensures.told ∙ ap (λ hs. hb ∷ hs) c.requires.held in
    let isb = box_about ph.problem ph.holds ph.weight ph.start_weight S (2 * S) refl _ a c.args.self.now.of_this hands c.in-Taken.ensures.legal s c.requires.within 0 inbox.owners.value.items inbox.shard 0 b (ap (λ z. get_elem? z 0) two) in
    let pool_is : hand_pool hands ≡ b ++ es = ap hand_pool two ∙ ap (λ z. b ++ z) (append-nil es) in
    let call = c.merge-served in
    let mail2 = call.result.0.mail.items in
    let fresh2 = call.result.0.fresh.items in
    let b2 = call.result.1.envelopes in
    let moved = call.ensures.moved in
    let emptied = call.ensures.emptied in
    let fresh_is : fresh2 ≡ sh.fresh.items = ap (λ z. z.items) call.ensures.kept.5 in
    let box2 = call.result.1 in
    let rest_is : (record { owners = box2.owners.value.items; shard = box2.shard; waits = 0; stood = None }) ≡ box_rest = (λ i. record { owners = (emptied.1 i).value.items; shard = emptied.2 i; waits = 0; stood = None }) in
    let perm : IsPermutation (b ++ es) (b2 ++ (pool mail2 ++ fresh2)) =
    rw emptied.0 (subst (λ z. IsPermutation (b ++ es) (pool mail2 ++ z)) (sym fresh_is) (subst (λ z. IsPermutation (b ++ es) (pool z ++ sh.fresh.items)) (sym moved.2) (pool_merge sh.mail.items sh.shard moved.0 b sh.fresh.items moved.1))) in
    let stands = cell_stands ph.problem ph.holds ph.weight ph.start_weight S (2 * S) refl _ a c.args.self.now.of_this hands c.in-Taken.ensures.legal s c.requires.within 1 sh.owners.value.items sh.shard waits st es (ap (λ z. get_elem? z 1) two) in
    let all : IsPermutation (hand_pool hands) (pool mail2 ++ fresh2) = subst (λ z. IsPermutation z (pool mail2 ++ fresh2)) (sym pool_is) (subst (λ z. IsPermutation (b ++ es) (z ++ (pool mail2 ++ fresh2))) emptied.0 perm) in
    stands_perm ph.problem ph.holds ph.weight ph.start_weight ph.react (record { keeps = law.keeps; lowers = law.lowers; same = law.same_problem; order = law.holds_in_any_order; same_weight = law.weighs_in_any_order; addressed = law.addressed; small = law.start_weight_fits }) sh.owners.value.items s st (hand_pool hands) (pool mail2 ++ fresh2) all stands

pub returns-in-Taken-clause-tried : goal.returns-in-Taken-clause-tried
returns-in-Taken-clause-tried g c =
    let ph = g.P.Phase in
    let law = g.met.P.Phase in
    let sh = c.args.served in
    let s = c.args.s in
    let S = c.args.self.now.board.shards in
    let post = c.args.self.now in
    let st = stood ph.problem sh.phase.value sh.first.value.items sh.cells.items in
    let es = pool sh.mail.items ++ sh.fresh.items in
    let a : About g.row.P.Denot g.row.P-Problem.Denot = record { phase = post.phase; problem = ph.problem post.phase post.first.value.items; owners = post.owners.items } in
    let waits = length (slice_index_or sh.mail.items sh.shard []) in
    let inbox = c.in-Taken.inbox in
    let b = inbox.envelopes in
    let hands = c.take_box.new.seat.place.me.0.hands in
    let rest : Part g.row.P.Denot g.row.P-Problem.Denot g.row.P-Cell.Denot = record { owners = sh.owners.value.items; shard = sh.shard; waits = waits; stood = Some st } in
    let box_rest : Part g.row.P.Denot g.row.P-Problem.Denot g.row.P-Cell.Denot = record { owners = inbox.owners.value.items; shard = inbox.shard; waits = 0; stood = None } in
    let hc = hand_of s (record { rest = rest; parcels = es }) in
    let hb = hand_of (S + s) (record { rest = box_rest; parcels = b }) in
    let two : hands ≡ hb ∷ hc ∷ [] = ap (λ z. z.hands) c.in-Taken.ensures.told ∙ ap (λ hs. hb ∷ hs) c.requires.held in
    let isb = box_about ph.problem ph.holds ph.weight ph.start_weight S (2 * S) refl _ a c.args.self.now.of_this hands c.in-Taken.ensures.legal s c.requires.within 0 inbox.owners.value.items inbox.shard 0 b (ap (λ z. get_elem? z 0) two) in
    let pool_is : hand_pool hands ≡ b ++ es = ap hand_pool two ∙ ap (λ z. b ++ z) (append-nil es) in
    let call = c.merge-served in
    let mail2 = call.result.0.mail.items in
    let fresh2 = call.result.0.fresh.items in
    let b2 = call.result.1.envelopes in
    let moved = call.ensures.moved in
    let emptied = call.ensures.emptied in
    let fresh_is : fresh2 ≡ sh.fresh.items = ap (λ z. z.items) call.ensures.kept.5 in
    let box2 = call.result.1 in
    let rest_is : (record { owners = box2.owners.value.items; shard = box2.shard; waits = 0; stood = None }) ≡ box_rest = (λ i. record { owners = (emptied.1 i).value.items; shard = emptied.2 i; waits = 0; stood = None }) in
    let perm : IsPermutation (b ++ es) (b2 ++ (pool mail2 ++ fresh2)) =
    rw emptied.0 (subst (λ z. IsPermutation (b ++ es) (pool mail2 ++ z)) (sym fresh_is) (subst (λ z. IsPermutation (b ++ es) (pool z ++ sh.fresh.items)) (sym moved.2) (pool_merge sh.mail.items sh.shard moved.0 b sh.fresh.items moved.1))) in
    let given : Contents (Part g.row.P.Denot g.row.P-Problem.Denot g.row.P-Cell.Denot) _ = record { rest = record { owners = box2.owners.value.items; shard = box2.shard; waits = 0; stood = None }; parcels = b2 } in
    let hs2 = c.give_box.new.seat.place.me.0.hands in
    let goes = subst (λ hs. Goes hs given hs2) two c.give_box.ensures.goes in
    let stays = c.give_box.ensures.stays (pool mail2 ++ fresh2) (subst (λ z. IsPermutation z (b2 ++ (pool mail2 ++ fresh2))) (sym pool_is) perm) in
    let left_is : hand_pool hs2 ≡ goes.0 = ap hand_pool goes.2 ∙ append-nil goes.0 in
    let same : IsPermutation goes.0 (pool mail2 ++ fresh2) = subst (λ z. IsPermutation z (pool mail2 ++ fresh2)) left_is (IsPermutation-sym _ _ stays) in
    let h = hand_of (S + s) given in
    let gave_is = ap (λ z. z.gave) c.give_box.ensures.given ∙ ap (λ l. h ∷ l) (ap (λ z. z.gave) c.in-Taken.ensures.told) in
    (h ∷ [], gave_is, inr (0, h, refl, refl), All-cons (λ x. x.slot ≡ S + s → x.parcels ≡ []) h [] (λ _. emptied.0) (All-nil _))

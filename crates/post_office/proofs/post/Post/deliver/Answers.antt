use Rattle.std.proofs.Common.{◌≡◌, ◌≢◌, ◌<◌, ◌+◌, ◌*◌, ◌∷◌, ◌++◌, [], sym, ap, ◌∙◌, refl, subst, length, arith, Some, None, inr, length-append, append-nil}
use Rattle.std.specs.Prelude.{IsPermutation, slice_index_or, slice_set}
use Rattle.std.proofs.lemmas.List.Elements.{All-nil, All-cons}
use Rattle.std.proofs.lemmas.List.Sorted.{IsPermutation-sym, length_permutation}
use lib.ListN.{get_elem?}
use Rattle.quiet_table.specs.Contents.{Contents, pool}
use Rattle.quiet_table.specs.Views.{hand_of, hand_pool}
use Rattle.quiet_table.specs.Hands.{MayGive, Goes}
use Rattle.post_office.specs.declared.plain.Part.{Part}
use Rattle.post_office.specs.declared.plain.About.{About}
use Rattle.post_office.specs.Posts.{stood}
use Rattle.post_office.proofs.Lists.{pool_post, get_or_else}
use Rattle.post_office.proofs.Holding.{box_about, few_held}
use Rattle.post_office.proofs.post.Post.deliver.Goals as goal

pub post-served-requires-clause-same : goal.post-served-requires-clause-same
post-served-requires-clause-same g c =
    let ph = g.P.Phase in
    let law = g.met.P.Phase in
    let sh = c.args.served in
    let s = c.args.s in
    let S = c.args.self.now.board.shards in
    let post = c.args.self.now in
    let st = stood ph.problem sh.phase.value sh.first.value.items sh.cells.items in
    let es = pool sh.mail.items ++ sh.fresh.items in
    let a : About g.row.P.Denot g.row.P-Problem.Denot = record { phase = post.phase; problem = ph.problem post.phase post.first.value.items; owners = post.owners.items } in
    let waits = length (slice_index_or sh.mail.items sh.shard []) in
    let inbox = c.in-Taken.inbox in
    let b = inbox.envelopes in
    let hands = c.take_box.new.seat.place.me.0.hands in
    let rest : Part g.row.P.Denot g.row.P-Problem.Denot g.row.P-Cell.Denot = record { owners = sh.owners.value.items; shard = sh.shard; waits = waits; stood = Some st } in
    let box_rest : Part g.row.P.Denot g.row.P-Problem.Denot g.row.P-Cell.Denot = record { owners = inbox.owners.value.items; shard = inbox.shard; waits = 0; stood = None } in
    let hc = hand_of s (record { rest = rest; parcels = c.requires.held.0 }) in
    let hb = hand_of (S + c.args.t) (record { rest = box_rest; parcels = b }) in
    let two : hands ≡ hb ∷ hc ∷ [] = ap (λ z. z.hands) c.in-Taken.ensures.told ∙ ap (λ hs. hb ∷ hs) c.requires.held.1 in
    let isb = box_about ph.problem ph.holds ph.weight ph.start_weight S (2 * S) refl _ a c.args.self.now.of_this hands c.in-Taken.ensures.legal c.args.t c.requires.within.1 0 inbox.owners.value.items inbox.shard 0 b (ap (λ z. get_elem? z 0) two) in
    let pool_is : hand_pool hands ≡ b ++ c.requires.held.0 = ap hand_pool two ∙ ap (λ z. b ++ z) (append-nil c.requires.held.0) in
    isb.1 ∙ sym c.requires.number.1

pub post-served-requires-clause-within : goal.post-served-requires-clause-within
post-served-requires-clause-within g c =
    let ph = g.P.Phase in
    let law = g.met.P.Phase in
    let sh = c.args.served in
    let s = c.args.s in
    let S = c.args.self.now.board.shards in
    let post = c.args.self.now in
    let st = stood ph.problem sh.phase.value sh.first.value.items sh.cells.items in
    let es = pool sh.mail.items ++ sh.fresh.items in
    let a : About g.row.P.Denot g.row.P-Problem.Denot = record { phase = post.phase; problem = ph.problem post.phase post.first.value.items; owners = post.owners.items } in
    let waits = length (slice_index_or sh.mail.items sh.shard []) in
    let inbox = c.in-Taken.inbox in
    let b = inbox.envelopes in
    let hands = c.take_box.new.seat.place.me.0.hands in
    let rest : Part g.row.P.Denot g.row.P-Problem.Denot g.row.P-Cell.Denot = record { owners = sh.owners.value.items; shard = sh.shard; waits = waits; stood = Some st } in
    let box_rest : Part g.row.P.Denot g.row.P-Problem.Denot g.row.P-Cell.Denot = record { owners = inbox.owners.value.items; shard = inbox.shard; waits = 0; stood = None } in
    let hc = hand_of s (record { rest = rest; parcels = c.requires.held.0 }) in
    let hb = hand_of (S + c.args.t) (record { rest = box_rest; parcels = b }) in
    let two : hands ≡ hb ∷ hc ∷ [] = ap (λ z. z.hands) c.in-Taken.ensures.told ∙ ap (λ hs. hb ∷ hs) c.requires.held.1 in
    let isb = box_about ph.problem ph.holds ph.weight ph.start_weight S (2 * S) refl _ a c.args.self.now.of_this hands c.in-Taken.ensures.legal c.args.t c.requires.within.1 0 inbox.owners.value.items inbox.shard 0 b (ap (λ z. get_elem? z 0) two) in
    let pool_is : hand_pool hands ≡ b ++ c.requires.held.0 = ap hand_pool two ∙ ap (λ z. b ++ z) (append-nil c.requires.held.0) in
    subst (λ n. n < length sh.mail.items) (sym isb.0) c.requires.within.3

pub post-served-requires-clause-few : goal.post-served-requires-clause-few
post-served-requires-clause-few g c =
    let ph = g.P.Phase in
    let law = g.met.P.Phase in
    let sh = c.args.served in
    let s = c.args.s in
    let S = c.args.self.now.board.shards in
    let post = c.args.self.now in
    let st = stood ph.problem sh.phase.value sh.first.value.items sh.cells.items in
    let es = pool sh.mail.items ++ sh.fresh.items in
    let a : About g.row.P.Denot g.row.P-Problem.Denot = record { phase = post.phase; problem = ph.problem post.phase post.first.value.items; owners = post.owners.items } in
    let waits = length (slice_index_or sh.mail.items sh.shard []) in
    let inbox = c.in-Taken.inbox in
    let b = inbox.envelopes in
    let hands = c.take_box.new.seat.place.me.0.hands in
    let rest : Part g.row.P.Denot g.row.P-Problem.Denot g.row.P-Cell.Denot = record { owners = sh.owners.value.items; shard = sh.shard; waits = waits; stood = Some st } in
    let box_rest : Part g.row.P.Denot g.row.P-Problem.Denot g.row.P-Cell.Denot = record { owners = inbox.owners.value.items; shard = inbox.shard; waits = 0; stood = None } in
    let hc = hand_of s (record { rest = rest; parcels = c.requires.held.0 }) in
    let hb = hand_of (S + c.args.t) (record { rest = box_rest; parcels = b }) in
    let two : hands ≡ hb ∷ hc ∷ [] = ap (λ z. z.hands) c.in-Taken.ensures.told ∙ ap (λ hs. hb ∷ hs) c.requires.held.1 in
    let isb = box_about ph.problem ph.holds ph.weight ph.start_weight S (2 * S) refl _ a c.args.self.now.of_this hands c.in-Taken.ensures.legal c.args.t c.requires.within.1 0 inbox.owners.value.items inbox.shard 0 b (ap (λ z. get_elem? z 0) two) in
    let pool_is : hand_pool hands ≡ b ++ c.requires.held.0 = ap hand_pool two ∙ ap (λ z. b ++ z) (append-nil c.requires.held.0) in
    let few = few_held ph.problem ph.holds ph.weight ph.start_weight ph.react (record { keeps = law.keeps; lowers = law.lowers; same = law.same_problem; order = law.holds_in_any_order; same_weight = law.weighs_in_any_order; addressed = law.addressed; small = law.start_weight_fits }) (2 * S) _ hands c.in-Taken.ensures.legal in
    let n = ap length pool_is in
    let m = length-append b c.requires.held.0 in
    let o = length-append (pool sh.mail.items) sh.fresh.items in
    let q = length_permutation c.requires.held.0 es c.requires.held.2 in
    omega (arith, few, n, m, o, q)

pub give_box-requires-clause-may : goal.give_box-requires-clause-may
give_box-requires-clause-may g c =
    let ph = g.P.Phase in
    let law = g.met.P.Phase in
    let sh = c.args.served in
    let s = c.args.s in
    let S = c.args.self.now.board.shards in
    let post = c.args.self.now in
    let st = stood ph.problem sh.phase.value sh.first.value.items sh.cells.items in
    let es = pool sh.mail.items ++ sh.fresh.items in
    let a : About g.row.P.Denot g.row.P-Problem.Denot = record { phase = post.phase; problem = ph.problem post.phase post.first.value.items; owners = post.owners.items } in
    let waits = length (slice_index_or sh.mail.items sh.shard []) in
    let inbox = c.in-Taken.inbox in
    let b = inbox.envelopes in
    let hands = c.take_box.new.seat.place.me.0.hands in
    let rest : Part g.row.P.Denot g.row.P-Problem.Denot g.row.P-Cell.Denot = record { owners = sh.owners.value.items; shard = sh.shard; waits = waits; stood = Some st } in
    let box_rest : Part g.row.P.Denot g.row.P-Problem.Denot g.row.P-Cell.Denot = record { owners = inbox.owners.value.items; shard = inbox.shard; waits = 0; stood = None } in
    let hc = hand_of s (record { rest = rest; parcels = c.requires.held.0 }) in
    let hb = hand_of (S + c.args.t) (record { rest = box_rest; parcels = b }) in
    let two : hands ≡ hb ∷ hc ∷ [] = ap (λ z. z.hands) c.in-Taken.ensures.told ∙ ap (λ hs. hb ∷ hs) c.requires.held.1 in
    let isb = box_about ph.problem ph.holds ph.weight ph.start_weight S (2 * S) refl _ a c.args.self.now.of_this hands c.in-Taken.ensures.legal c.args.t c.requires.within.1 0 inbox.owners.value.items inbox.shard 0 b (ap (λ z. get_elem? z 0) two) in
    let pool_is : hand_pool hands ≡ b ++ c.requires.held.0 = ap hand_pool two ∙ ap (λ z. b ++ z) (append-nil c.requires.held.0) in
    let call = c.post-served in
    let mail2 = call.result.0.mail.items in
    let fresh2 = call.result.0.fresh.items in
    let b2 = call.result.1.envelopes in
    let moved = call.ensures.moved in
    let emptied = call.ensures.emptied in
    let fresh_is : fresh2 ≡ sh.fresh.items = ap (λ z. z.items) call.ensures.kept.5 in
    let box2 = call.result.1 in
    let rest_is : (record { owners = box2.owners.value.items; shard = box2.shard; waits = 0; stood = None }) ≡ box_rest = (λ i. record { owners = (emptied.1 i).value.items; shard = emptied.2 i; waits = 0; stood = None }) in
    let perm : IsPermutation (b ++ c.requires.held.0) (b2 ++ (pool mail2 ++ fresh2)) =
    subst (λ z. IsPermutation (b ++ c.requires.held.0) (z ++ (pool mail2 ++ fresh2))) (sym moved.2) (subst (λ z. IsPermutation (b ++ c.requires.held.0) ((b ++ moved.0) ++ (pool mail2 ++ z))) (sym fresh_is) (subst (λ z. IsPermutation (b ++ c.requires.held.0) ((b ++ moved.0) ++ (pool z ++ sh.fresh.items))) (sym emptied.0) (pool_post sh.mail.items inbox.shard moved.0 b sh.fresh.items c.requires.held.0 moved.1 c.requires.held.2))) in
    subst (λ hs. MayGive hs (record { rest = record { owners = box2.owners.value.items; shard = box2.shard; waits = 0; stood = None }; parcels = b2 })) (sym two) (rest_is, (pool mail2 ++ fresh2, perm))

pub returns-in-Taken-clause-moved : goal.returns-in-Taken-clause-moved
returns-in-Taken-clause-moved g c =
    let ph = g.P.Phase in
    let law = g.met.P.Phase in
    let sh = c.args.served in
    let s = c.args.s in
    let S = c.args.self.now.board.shards in
    let post = c.args.self.now in
    let st = stood ph.problem sh.phase.value sh.first.value.items sh.cells.items in
    let es = pool sh.mail.items ++ sh.fresh.items in
    let a : About g.row.P.Denot g.row.P-Problem.Denot = record { phase = post.phase; problem = ph.problem post.phase post.first.value.items; owners = post.owners.items } in
    let waits = length (slice_index_or sh.mail.items sh.shard []) in
    let inbox = c.in-Taken.inbox in
    let b = inbox.envelopes in
    let hands = c.take_box.new.seat.place.me.0.hands in
    let rest : Part g.row.P.Denot g.row.P-Problem.Denot g.row.P-Cell.Denot = record { owners = sh.owners.value.items; shard = sh.shard; waits = waits; stood = Some st } in
    let box_rest : Part g.row.P.Denot g.row.P-Problem.Denot g.row.P-Cell.Denot = record { owners = inbox.owners.value.items; shard = inbox.shard; waits = 0; stood = None } in
    let hc = hand_of s (record { rest = rest; parcels = c.requires.held.0 }) in
    let hb = hand_of (S + c.args.t) (record { rest = box_rest; parcels = b }) in
    let two : hands ≡ hb ∷ hc ∷ [] = ap (λ z. z.hands) c.in-Taken.ensures.told ∙ ap (λ hs. hb ∷ hs) c.requires.held.1 in
    let isb = box_about ph.problem ph.holds ph.weight ph.start_weight S (2 * S) refl _ a c.args.self.now.of_this hands c.in-Taken.ensures.legal c.args.t c.requires.within.1 0 inbox.owners.value.items inbox.shard 0 b (ap (λ z. get_elem? z 0) two) in
    let pool_is : hand_pool hands ≡ b ++ c.requires.held.0 = ap hand_pool two ∙ ap (λ z. b ++ z) (append-nil c.requires.held.0) in
    let call = c.post-served in
    let mail2 = call.result.0.mail.items in
    let fresh2 = call.result.0.fresh.items in
    let b2 = call.result.1.envelopes in
    let moved = call.ensures.moved in
    let emptied = call.ensures.emptied in
    let fresh_is : fresh2 ≡ sh.fresh.items = ap (λ z. z.items) call.ensures.kept.5 in
    let box2 = call.result.1 in
    let rest_is : (record { owners = box2.owners.value.items; shard = box2.shard; waits = 0; stood = None }) ≡ box_rest = (λ i. record { owners = (emptied.1 i).value.items; shard = emptied.2 i; waits = 0; stood = None }) in
    let perm : IsPermutation (b ++ c.requires.held.0) (b2 ++ (pool mail2 ++ fresh2)) =
    subst (λ z. IsPermutation (b ++ c.requires.held.0) (z ++ (pool mail2 ++ fresh2))) (sym moved.2) (subst (λ z. IsPermutation (b ++ c.requires.held.0) ((b ++ moved.0) ++ (pool mail2 ++ z))) (sym fresh_is) (subst (λ z. IsPermutation (b ++ c.requires.held.0) ((b ++ moved.0) ++ (pool z ++ sh.fresh.items))) (sym emptied.0) (pool_post sh.mail.items inbox.shard moved.0 b sh.fresh.items c.requires.held.0 moved.1 c.requires.held.2))) in
    inr (emptied.0 ∙ ap (λ k. slice_set sh.mail.items k []) isb.0)

pub returns-in-Taken-clause-held : goal.returns-in-Taken-clause-held
returns-in-Taken-clause-held g c =
    let ph = g.P.Phase in
    let law = g.met.P.Phase in
    let sh = c.args.served in
    let s = c.args.s in
    let S = c.args.self.now.board.shards in
    let post = c.args.self.now in
    let st = stood ph.problem sh.phase.value sh.first.value.items sh.cells.items in
    let es = pool sh.mail.items ++ sh.fresh.items in
    let a : About g.row.P.Denot g.row.P-Problem.Denot = record { phase = post.phase; problem = ph.problem post.phase post.first.value.items; owners = post.owners.items } in
    let waits = length (slice_index_or sh.mail.items sh.shard []) in
    let inbox = c.in-Taken.inbox in
    let b = inbox.envelopes in
    let hands = c.take_box.new.seat.place.me.0.hands in
    let rest : Part g.row.P.Denot g.row.P-Problem.Denot g.row.P-Cell.Denot = record { owners = sh.owners.value.items; shard = sh.shard; waits = waits; stood = Some st } in
    let box_rest : Part g.row.P.Denot g.row.P-Problem.Denot g.row.P-Cell.Denot = record { owners = inbox.owners.value.items; shard = inbox.shard; waits = 0; stood = None } in
    let hc = hand_of s (record { rest = rest; parcels = c.requires.held.0 }) in
    let hb = hand_of (S + c.args.t) (record { rest = box_rest; parcels = b }) in
    let two : hands ≡ hb ∷ hc ∷ [] = ap (λ z. z.hands) c.in-Taken.ensures.told ∙ ap (λ hs. hb ∷ hs) c.requires.held.1 in
    let isb = box_about ph.problem ph.holds ph.weight ph.start_weight S (2 * S) refl _ a c.args.self.now.of_this hands c.in-Taken.ensures.legal c.args.t c.requires.within.1 0 inbox.owners.value.items inbox.shard 0 b (ap (λ z. get_elem? z 0) two) in
    let pool_is : hand_pool hands ≡ b ++ c.requires.held.0 = ap hand_pool two ∙ ap (λ z. b ++ z) (append-nil c.requires.held.0) in
    let call = c.post-served in
    let mail2 = call.result.0.mail.items in
    let fresh2 = call.result.0.fresh.items in
    let b2 = call.result.1.envelopes in
    let moved = call.ensures.moved in
    let emptied = call.ensures.emptied in
    let fresh_is : fresh2 ≡ sh.fresh.items = ap (λ z. z.items) call.ensures.kept.5 in
    let box2 = call.result.1 in
    let rest_is : (record { owners = box2.owners.value.items; shard = box2.shard; waits = 0; stood = None }) ≡ box_rest = (λ i. record { owners = (emptied.1 i).value.items; shard = emptied.2 i; waits = 0; stood = None }) in
    let perm : IsPermutation (b ++ c.requires.held.0) (b2 ++ (pool mail2 ++ fresh2)) =
    subst (λ z. IsPermutation (b ++ c.requires.held.0) (z ++ (pool mail2 ++ fresh2))) (sym moved.2) (subst (λ z. IsPermutation (b ++ c.requires.held.0) ((b ++ moved.0) ++ (pool mail2 ++ z))) (sym fresh_is) (subst (λ z. IsPermutation (b ++ c.requires.held.0) ((b ++ moved.0) ++ (pool z ++ sh.fresh.items))) (sym emptied.0) (pool_post sh.mail.items inbox.shard moved.0 b sh.fresh.items c.requires.held.0 moved.1 c.requires.held.2))) in
    let given : Contents (Part g.row.P.Denot g.row.P-Problem.Denot g.row.P-Cell.Denot) _ = record { rest = record { owners = box2.owners.value.items; shard = box2.shard; waits = 0; stood = None }; parcels = b2 } in
    let hs2 = c.give_box.new.seat.place.me.0.hands in
    let goes = subst (λ hs. Goes hs given hs2) two c.give_box.ensures.goes in
    let stays = c.give_box.ensures.stays (pool mail2 ++ fresh2) (subst (λ z. IsPermutation z (b2 ++ (pool mail2 ++ fresh2))) (sym pool_is) perm) in
    let left_is : hand_pool hs2 ≡ goes.0 = ap hand_pool goes.2 ∙ append-nil goes.0 in
    let same : IsPermutation goes.0 (pool mail2 ++ fresh2) = subst (λ z. IsPermutation z (pool mail2 ++ fresh2)) left_is (IsPermutation-sym _ _ stays) in
    let r = call.result.0 in
    let k = call.ensures.kept in
    let other : s ≢ inbox.shard = λ e. c.requires.within.2 (sym (e ∙ isb.0)) in
    let waits_is : length (slice_index_or mail2 sh.shard []) ≡ waits = ap length (ap (λ m. slice_index_or m sh.shard []) emptied.0 ∙ get_or_else sh.mail.items inbox.shard sh.shard [] [] (λ e. other (sym c.requires.number.0 ∙ e))) in
    let waits_are : length (slice_index_or mail2 r.shard []) ≡ waits = ap (λ n. length (slice_index_or mail2 n [])) k.3 ∙ waits_is in
    let rest2 : Part g.row.P.Denot g.row.P-Problem.Denot g.row.P-Cell.Denot = record { owners = r.owners.value.items; shard = r.shard; waits = length (slice_index_or mail2 r.shard []); stood = Some (stood ph.problem r.phase.value r.first.value.items r.cells.items) } in
    let same_rest : rest ≡ rest2 = (λ i. record { owners = ((sym k.2) i).value.items; shard = (sym k.3) i; waits = (sym waits_are) i; stood = Some (stood ph.problem ((sym k.0) i).value ((sym k.1) i).value.items ((sym k.4) i).items) }) in
    (goes.0, goes.2 ∙ ap (λ z. hand_of s (record { rest = z; parcels = goes.0 }) ∷ []) same_rest, same)

pub returns-in-Taken-clause-gave : goal.returns-in-Taken-clause-gave
returns-in-Taken-clause-gave g c =
    let ph = g.P.Phase in
    let law = g.met.P.Phase in
    let sh = c.args.served in
    let s = c.args.s in
    let S = c.args.self.now.board.shards in
    let post = c.args.self.now in
    let st = stood ph.problem sh.phase.value sh.first.value.items sh.cells.items in
    let es = pool sh.mail.items ++ sh.fresh.items in
    let a : About g.row.P.Denot g.row.P-Problem.Denot = record { phase = post.phase; problem = ph.problem post.phase post.first.value.items; owners = post.owners.items } in
    let waits = length (slice_index_or sh.mail.items sh.shard []) in
    let inbox = c.in-Taken.inbox in
    let b = inbox.envelopes in
    let hands = c.take_box.new.seat.place.me.0.hands in
    let rest : Part g.row.P.Denot g.row.P-Problem.Denot g.row.P-Cell.Denot = record { owners = sh.owners.value.items; shard = sh.shard; waits = waits; stood = Some st } in
    let box_rest : Part g.row.P.Denot g.row.P-Problem.Denot g.row.P-Cell.Denot = record { owners = inbox.owners.value.items; shard = inbox.shard; waits = 0; stood = None } in
    let hc = hand_of s (record { rest = rest; parcels = c.requires.held.0 }) in
    let hb = hand_of (S + c.args.t) (record { rest = box_rest; parcels = b }) in
    let two : hands ≡ hb ∷ hc ∷ [] = ap (λ z. z.hands) c.in-Taken.ensures.told ∙ ap (λ hs. hb ∷ hs) c.requires.held.1 in
    let isb = box_about ph.problem ph.holds ph.weight ph.start_weight S (2 * S) refl _ a c.args.self.now.of_this hands c.in-Taken.ensures.legal c.args.t c.requires.within.1 0 inbox.owners.value.items inbox.shard 0 b (ap (λ z. get_elem? z 0) two) in
    let pool_is : hand_pool hands ≡ b ++ c.requires.held.0 = ap hand_pool two ∙ ap (λ z. b ++ z) (append-nil c.requires.held.0) in
    let call = c.post-served in
    let mail2 = call.result.0.mail.items in
    let fresh2 = call.result.0.fresh.items in
    let b2 = call.result.1.envelopes in
    let moved = call.ensures.moved in
    let emptied = call.ensures.emptied in
    let fresh_is : fresh2 ≡ sh.fresh.items = ap (λ z. z.items) call.ensures.kept.5 in
    let box2 = call.result.1 in
    let rest_is : (record { owners = box2.owners.value.items; shard = box2.shard; waits = 0; stood = None }) ≡ box_rest = (λ i. record { owners = (emptied.1 i).value.items; shard = emptied.2 i; waits = 0; stood = None }) in
    let perm : IsPermutation (b ++ c.requires.held.0) (b2 ++ (pool mail2 ++ fresh2)) =
    subst (λ z. IsPermutation (b ++ c.requires.held.0) (z ++ (pool mail2 ++ fresh2))) (sym moved.2) (subst (λ z. IsPermutation (b ++ c.requires.held.0) ((b ++ moved.0) ++ (pool mail2 ++ z))) (sym fresh_is) (subst (λ z. IsPermutation (b ++ c.requires.held.0) ((b ++ moved.0) ++ (pool z ++ sh.fresh.items))) (sym emptied.0) (pool_post sh.mail.items inbox.shard moved.0 b sh.fresh.items c.requires.held.0 moved.1 c.requires.held.2))) in
    let given : Contents (Part g.row.P.Denot g.row.P-Problem.Denot g.row.P-Cell.Denot) _ = record { rest = record { owners = box2.owners.value.items; shard = box2.shard; waits = 0; stood = None }; parcels = b2 } in
    let hs2 = c.give_box.new.seat.place.me.0.hands in
    let goes = subst (λ hs. Goes hs given hs2) two c.give_box.ensures.goes in
    let stays = c.give_box.ensures.stays (pool mail2 ++ fresh2) (subst (λ z. IsPermutation z (b2 ++ (pool mail2 ++ fresh2))) (sym pool_is) perm) in
    let left_is : hand_pool hs2 ≡ goes.0 = ap hand_pool goes.2 ∙ append-nil goes.0 in
    let same : IsPermutation goes.0 (pool mail2 ++ fresh2) = subst (λ z. IsPermutation z (pool mail2 ++ fresh2)) left_is (IsPermutation-sym _ _ stays) in
    let h = hand_of (S + c.args.t) given in
    let gave_is = ap (λ z. z.gave) c.give_box.ensures.given ∙ ap (λ l. h ∷ l) (ap (λ z. z.gave) c.in-Taken.ensures.told) in
    (h ∷ [], gave_is, All-cons (λ x. x.slot ≢ S + s) h [] (λ e. c.requires.within.2 (omega (arith, e))) (All-nil _))

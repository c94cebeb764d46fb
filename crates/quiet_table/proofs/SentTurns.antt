-- The sent step of a turn keeps the rule.
use Rattle.std.proofs.Common.{◌≡◌, ◌≢◌, ℕ, zero, suc, ◌+◌, ◌*◌, ◌%◌, ◌^◌, ◌<◌, List, [], ◌∷◌, ◌++◌, map, length, set, get_or, sym, refl, ap, ◌∙◌, subst, ⊎_elim, inl, inr, arith, Option, Some, length-set, length-append, get_or-set_other}
use Rattle.std.specs.Prelude.{IsPermutation, slice_get, slice_set}
use Rattle.std.proofs.lemmas.List.Sorted.{length_permutation, IsPermutation-sym}
use mathlib.Core.Option.{none, some, some-injective, some-ne-none}
use lib.ListN.{get_elem?, length-map}
use lib.Seq.{map-set}
use Rattle.atomic_table.specs.Table.{State, Me, step, keeps, Allows}
use Rattle.atomic_table.proofs.Lists.{at_set, set_here, set_else, set_again, at_map}
use Rattle.quiet_table.specs.declared.view.Hand.{Hand}
use Rattle.quiet_table.specs.declared.view.View.{View}
use Rattle.quiet_table.specs.declared.item.Item.{Item}
use Rattle.quiet_table.specs.Contents.{Contents, rest_of, parcels_of, pool}
use Rattle.quiet_table.specs.Words.{span}
use Rattle.quiet_table.specs.Views.{FirstIs, turned, recarried}
use Rattle.quiet_table.specs.Hands.{TurnsFrom}
use Rattle.quiet_table.specs.Told.{sent_told}
use Rattle.quiet_table.specs.BoardRule.{IsOut, Fits, AtHome, BoardRule, uncounted}
use Rattle.quiet_table.proofs.Pools.{pool_front, span_set}
use Rattle.quiet_table.proofs.Spans.{span_get}
use Rattle.quiet_table.proofs.SeatSums.{uncounted_set, stops_at_least, handles_same}
use Rattle.quiet_table.proofs.Counting.{counts_sent}
use Rattle.quiet_table.proofs.Claims.{numbered_stays, out_stays}

get_there : {A : Type 0} (l : List A) (i : ℕ) (a : A) → get_elem? l i ≡ some a → slice_get l i ≡ Some a
get_there [] i a e = absurd (some-ne-none a (sym e))
get_there (x ∷ xs) zero a e = ap (λ z. Some z) (some-injective x a e)
get_there (x ∷ xs) (suc i) a e = get_there xs i a e

module _ {C B R E O : Type 0} (contents : Item C B → Contents R E) (legal : List R → List E → ℕ → Type 0) (origin : List R → O) (turn : R → List E → ℕ → ℕ → R → List E → Type 0) (balances : (r : R) (es : List E) (sent handled : ℕ) (r' : R) (es' : List E) → turn r es sent handled r' es' → length es + sent ≡ length es' + handled) (idle : (r : R) (sent handled : ℕ) (r' : R) (es' : List E) → turn r [] sent handled r' es' → handled ≡ 0) (sends_after : (r : R) (es : List E) (sent handled : ℕ) (r' : R) (es' : List E) → turn r es sent handled r' es' → 0 < sent → 0 < handled) (keeps_legal : (rests : List R) (k : ℕ) (r : R) (es others : List E) (sent handled : ℕ) (r' : R) (es' : List E) (total : ℕ) → legal rests (es ++ others) total → slice_get rests k ≡ Some r → turn r es sent handled r' es' → legal (slice_set rests k r') (es' ++ others) (total + handled)) (any_order : (rests : List R) (es es' : List E) (total : ℕ) → IsPermutation es es' → legal rests es total → legal rests es' total) (bounded : (rests : List R) (es : List E) (total : ℕ) → legal rests es total → total + length es < 2 ^ 62) (keeps_origin : (rests : List R) (k : ℕ) (r : R) (es : List E) (sent handled : ℕ) (r' : R) (es' : List E) → slice_get rests k ≡ Some r → turn r es sent handled r' es' → origin (slice_set rests k r') ≡ origin rests) (shards : ℕ) (from : O) where
  abbrev S : Type 0
  S = Option (Item C B)

  abbrev Rule : State S (View R E) → Type 0
  Rule = BoardRule contents legal origin shards from

  none_held : (r : R) (es : List E) (sent handled : ℕ) (r' : R) (es' : List E) → turn r es sent handled r' es' → length es ≡ 0 → handled ≡ 0
  none_held r [] sent handled r' es' t e = idle r sent handled r' es' t
  none_held r (x ∷ xs) sent handled r' es' t e = absurd (omega arith)

  send_turn : (s : State S (View R E)) (r : Rule s) (id : ℕ) (v : View R E) (h0 : Hand R E) (hs : List (Hand R E)) (sent handled : ℕ) (r' : R) (es' : List E) → get_elem? s.views id ≡ some v → v.hands ≡ h0 ∷ hs → h0.slot < shards → turn h0.rest h0.parcels sent handled r' es'
      → Rule record { words = set s.words (2 * shards + h0.slot) ((get_or s.words (2 * shards + h0.slot) 0 + sent) % 2 ^ 64); homes = s.homes; views = set s.views id (turned handled r' es' v) }
  send_turn s r id v h0 hs sent handled r' es' at front within goes =
      let w : View R E = turned handled r' es' v in
      let h1 : Hand R E = record h0 { rest = r'; parcels = es' } in
      let hands : w.hands ≡ h1 ∷ hs = ap (recarried r' es') front in
      let c : Contents R E = record { rest = r'; parcels = es' } in
      let k : ℕ = 2 * shards + h0.slot in
      let n : ℕ = get_or s.words k 0 in
      let first : get_elem? v.hands 0 ≡ some h0 = ap (λ z. get_elem? z 0) front in
      let mine = r.each_hand id v 0 h0 at first in
      let wide = r.wide in let full = r.full in
      let settled' : List (Contents R E) = set r.settled h0.slot c in
      let ess : List (List E) = map parcels_of r.settled in
      let rests : List R = map rest_of r.settled in
      let others : List E = pool (set ess h0.slot []) in
      let deep_enough : h0.slot < length ess = rw (length-map r.settled (parcels_of {R = R} {E = E})) (omega arith) in
      let old_front : IsPermutation (pool ess) (h0.parcels ++ others) = subst (λ l. IsPermutation (pool l) (h0.parcels ++ others)) (set_again ess h0.slot h0.parcels (at_map parcels_of r.settled h0.slot (record { rest = h0.rest; parcels = h0.parcels }) mine.content)) (pool_front ess h0.slot h0.parcels deep_enough) in
      let new_front : IsPermutation (pool (set ess h0.slot es')) (es' ++ others) = pool_front ess h0.slot es' deep_enough in
      let at_rest : slice_get rests h0.slot ≡ Some h0.rest = get_there rests h0.slot h0.rest (at_map rest_of r.settled h0.slot (record { rest = h0.rest; parcels = h0.parcels }) mine.content) in
      let T : ℕ = span s.words (3 * shards) shards + uncounted s.views in
      let legal' : legal (set rests h0.slot r') (pool (set ess h0.slot es')) (T + handled) =
      any_order _ _ _ _ (IsPermutation-sym _ _ new_front) (keeps_legal rests h0.slot h0.rest h0.parcels others sent handled r' es' T (any_order _ _ _ _ old_front r.legal_now) at_rest goes) in
      let small = bounded _ _ _ legal' in
      let balance = balances _ _ _ _ _ _ goes in
      let len_old : length (pool ess) ≡ length h0.parcels + length others = sym (length_permutation _ _ old_front) ∙ length-append h0.parcels others in
      let len_new : length (pool (set ess h0.slot es')) ≡ length es' + length others = sym (length_permutation _ _ new_front) ∙ length-append es' others in
      let low = span_get s.words (2 * shards) shards k (omega arith) (omega arith) (omega arith) in
      let sums = r.counts.balanced in
      let fits : (n + sent) % 18446744073709551616 ≡ n + sent = omega arith in
      let total : uncounted (set s.views id w) ≡ uncounted s.views + handled = let q = uncounted_set s.views id v w at in let p : w.uncounted ≡ v.uncounted + handled = refl in omega arith in
      let same_rests : map rest_of settled' ≡ set rests h0.slot r' = map-set rest_of r.settled h0.slot c in
      let same_parcels : map parcels_of settled' ≡ set ess h0.slot es' = map-set parcels_of r.settled h0.slot c in
      let not_turn : (j : ℕ) → j < 2 * shards → j ≢ k = λ j l q. omega arith in
      subst (λ z. Rule record { words = set s.words k z; homes = s.homes; views = set s.views id w }) (sym fits) record {
        settled = settled';
        some_shard = r.some_shard;
        wide = length-set s.words k (n + sent) ∙ r.wide;
        deep = r.deep;
        full = length-set r.settled h0.slot c ∙ r.full;
        numbered = numbered_stays s.views id v w at refl refl refl refl (λ _. (refl, refl)) r.numbered;
        each_slot = λ j l. ⊎_elim
            (λ (t : AtHome contents shards s r.settled j).
            let apart : j ≢ h0.slot = λ q. let u = mine.turn in let z : get_or s.words h0.slot 0 ≡ 0 = ap (λ y. get_or s.words y 0) (sym q) ∙ t.1 in absurd (omega arith) in
            inl (t.0, get_or-set_other s.words k j (n + sent) 0 (not_turn j l) ∙ t.1, t.2, t.3, set_else r.settled h0.slot j c apart ∙ t.4))
            (λ (t : IsOut s.views j). inr (out_stays s.views id v w j at (λ a h x y. moved hs r' es' h0 j a h (ap (λ z. get_elem? z a) (sym front) ∙ x) y w hands) t))
            (r.each_slot j l);
        each_hand = λ j x a h e f. ⊎_elim
            (λ (t : (j ≡ id) × (w ≡ x)). subst (λ (z : View R E). Fits shards (set s.words k (n + sent)) settled' z h) t.1
            (own_hand s r id v h0 hs sent handled r' es' at front within a h (ap (λ z. get_elem? z a) (sym hands ∙ ap (λ (z : View R E). z.hands) t.1) ∙ f)))
            (λ (t : (j ≢ id) × (get_elem? s.views j ≡ some x)).
            let p = r.each_hand j x a h t.1 f in
            let apart : h.slot ≢ h0.slot = λ q. let t1 = p.turn in let t2 = mine.turn in let t3 : get_or s.words h.slot 0 ≡ get_or s.words h0.slot 0 = ap (λ y. get_or s.words y 0) q in let numbers : x.number ≡ v.number = omega arith in t.0 (r.numbered.apart j id x v t.1 at p.live mine.live numbers) in
            record { live = p.live; within = p.within; turn = get_or-set_other s.words k h.slot (n + sent) 0 (not_turn h.slot p.within) ∙ p.turn; content = set_else r.settled h0.slot h.slot c apart ∙ p.content })
            (at_set s.views id j w x e);
        apart = λ j x a b g h e f1 f2 same. ⊎_elim
            (λ (t : (j ≡ id) × (w ≡ x)).
            let q = sym hands ∙ ap (λ (z : View R E). z.hands) t.1 in
            let o1 = back h0 r' es' hs a g (ap (λ z. get_elem? z a) q ∙ f1) in let o2 = back h0 r' es' hs b h (ap (λ z. get_elem? z b) q ∙ f2) in
            r.apart id v a b o1.0 o2.0 at (ap (λ z. get_elem? z a) front ∙ o1.1) (ap (λ z. get_elem? z b) front ∙ o2.1) (o1.2 ∙ (same ∙ sym o2.2)))
            (λ (t : (j ≢ id) × (get_elem? s.views j ≡ some x)). r.apart j x a b g h t.1 f1 f2 same)
            (at_set s.views id j w x e);
        legal_now = rw (same_rests, same_parcels, span_set s.words (3 * shards) shards k (n + sent) (omega arith)) (subst (λ z. legal (set rests h0.slot r') (pool (set ess h0.slot es')) z) (let q : T + handled ≡ span s.words (3 * shards) shards + uncounted (set s.views id w) = omega arith in q) legal');
        handled = span_set s.words (3 * shards) shards k (n + sent) (omega arith) ∙ (r.handled ∙ handles_same s.views id v w at refl);
        counts = rw same_parcels (counts_sent shards s.words s.views (length (pool ess)) (length (pool (set ess h0.slot es'))) id v w h0.slot sent handled at refl refl refl refl within wide (omega arith) (λ q. none_held _ _ _ _ _ _ goes (omega arith)) (sends_after _ _ _ _ _ _ goes) r.counts);
        stopped = λ q. stops_at_least s.views id v w at (omega arith) (r.stopped (sym (get_or-set_other s.words k (4 * shards) (n + sent) 0 (λ e. omega arith)) ∙ q));
        same_origin = ap origin same_rests ∙ (keeps_origin rests h0.slot h0.rest h0.parcels sent handled r' es' at_rest goes ∙ r.same_origin);
      }
    where
      back : (h0 : Hand R E) (r' : R) (es' : List E) (hs : List (Hand R E)) (a : ℕ) (g : Hand R E) → get_elem? (record h0 { rest = r'; parcels = es' } ∷ hs) a ≡ some g → (o : Hand R E) × (get_elem? (h0 ∷ hs) a ≡ some o) × (o.slot ≡ g.slot)
      back h0 r' es' hs zero g e = (h0, refl, ap (λ (z : Hand R E). z.slot) (some-injective _ g e))
      back h0 r' es' hs (suc a) g e = (g, e, refl)

      moved : (hs : List (Hand R E)) (r' : R) (es' : List E) (h0 : Hand R E) (j a : ℕ) (h : Hand R E) → get_elem? (h0 ∷ hs) a ≡ some h → h.slot ≡ j → (w : View R E) → w.hands ≡ record h0 { rest = r'; parcels = es' } ∷ hs → (b : ℕ) × (g : Hand R E) × (get_elem? w.hands b ≡ some g) × (g.slot ≡ j)
      moved hs r' es' h0 j zero h e q w is = (0, record h0 { rest = r'; parcels = es' }, ap (λ z. get_elem? z 0) is, ap (λ (z : Hand R E). z.slot) (some-injective h0 h e) ∙ q)
      moved hs r' es' h0 j (suc a) h e q w is = (suc a, h, ap (λ z. get_elem? z (suc a)) is ∙ e, q)

      own_hand : (s : State S (View R E)) (r : Rule s) (id : ℕ) (v : View R E) (h0 : Hand R E) (hs : List (Hand R E)) (sent handled : ℕ) (r' : R) (es' : List E) → get_elem? s.views id ≡ some v → v.hands ≡ h0 ∷ hs → h0.slot < shards → (a : ℕ) (h : Hand R E) → get_elem? (record h0 { rest = r'; parcels = es' } ∷ hs) a ≡ some h
          → Fits shards (set s.words (2 * shards + h0.slot) (get_or s.words (2 * shards + h0.slot) 0 + sent)) (set r.settled h0.slot (record { rest = r'; parcels = es' })) (turned handled r' es' v) h
      own_hand s r id v h0 hs sent handled r' es' at front within zero h e =
          let mine = r.each_hand id v 0 h0 at (ap (λ z. get_elem? z 0) front) in
          let full = r.full in
          subst (λ (z : Hand R E). Fits shards (set s.words (2 * shards + h0.slot) (get_or s.words (2 * shards + h0.slot) 0 + sent)) (set r.settled h0.slot (record { rest = r'; parcels = es' })) (turned handled r' es' v) z) (some-injective _ h e)
          record { live = mine.live; within = mine.within; turn = get_or-set_other s.words (2 * shards + h0.slot) h0.slot _ 0 (λ q. omega arith) ∙ mine.turn; content = set_here r.settled h0.slot (record { rest = r'; parcels = es' }) (omega arith) }
      own_hand s r id v h0 hs sent handled r' es' at front within (suc a) h e =
          let p = r.each_hand id v (suc a) h at (ap (λ z. get_elem? z (suc a)) front ∙ e) in
          let apart : h.slot ≢ h0.slot = λ q. let z = r.apart id v (suc a) 0 h h0 at (ap (λ z. get_elem? z (suc a)) front ∙ e) (ap (λ z. get_elem? z 0) front) q in absurd (omega arith) in
          let low = p.within in
          record { live = p.live; within = p.within; turn = get_or-set_other s.words (2 * shards + h0.slot) h.slot _ 0 (λ q. omega arith) ∙ p.turn; content = set_else r.settled h0.slot h.slot (record { rest = r'; parcels = es' }) apart ∙ p.content }

  abbrev head_or : R → List R → R
  head_or d [] = d
  head_or d (x ∷ xs) = x

  turns_first : (hands : List (Hand R E)) (k sent handled : ℕ) (r' : R) (es' : List E) → FirstIs k hands → TurnsFrom turn hands sent handled r' es' → (h0 : Hand R E) × (hs : List (Hand R E)) × (hands ≡ h0 ∷ hs) × (h0.slot ≡ k) × turn h0.rest h0.parcels sent handled r' es'
  turns_first [] k sent handled r' es' is t = absurd is
  turns_first (h ∷ hs) k sent handled r' es' is t = (h, hs, refl, is, t)

  -- the sent step of a turn of the first hand's shard
  pub sends : (slots id : ℕ) (me : Me S (View R E)) (q sent handled : ℕ) (rs : List R) (r' : R) (es' : List E) → slots ≡ 2 * shards → rs ≡ r' ∷ [] → q < shards → FirstIs q me.0.hands → TurnsFrom turn me.0.hands sent handled r' es'
      → Allows Rule slots id me (2 * shards + q) (λ n. (n + sent) % 2 ^ 64) (sent_told rs es' handled (step slots (2 * shards + q) sent 0 none) me)
  sends slots id me q sent handled rs r' es' e picked within first goes s r deep at _ =
      let f = turns_first me.0.hands q sent handled r' es' first goes in (
        turned handled r' es' me.0,
        keeps,
        tt,
        subst (λ z. Rule record { words = set s.words (2 * shards + z) ((get_or s.words (2 * shards + z) 0 + sent) % 2 ^ 64); homes = s.homes; views = set s.views id (turned handled r' es' me.0) }) f.3
            (send_turn s r id me.0 f.0 f.1 sent handled r' es' at f.2 (subst (λ z. z < shards) (sym f.3) within) f.4),
        λ r2 e2. let same : r' ∷ [] ≡ r2 ∷ [] = sym picked ∙ e2 in ap (λ z. (turned handled z es' me.0, me.1)) (ap (head_or r') same),
      )

  pub sends_at : (sh slots id : ℕ) (me : Me S (View R E)) (q sent handled : ℕ) (rs : List R) (r' : R) (es' : List E) → sh ≡ shards → slots ≡ 2 * sh → rs ≡ r' ∷ [] → q < sh → FirstIs q me.0.hands → TurnsFrom turn me.0.hands sent handled r' es'
      → Allows Rule slots id me (2 * sh + q) (λ n. (n + sent) % 2 ^ 64) (sent_told rs es' handled (step slots (2 * sh + q) sent 0 none) me)
  sends_at sh slots id me q sent handled rs r' es' same e picked within first goes = rw same (sends slots id me q sent handled rs r' es' (e ∙ ap (λ z. 2 * z) same) picked (subst (λ z. q < z) same within) first goes)

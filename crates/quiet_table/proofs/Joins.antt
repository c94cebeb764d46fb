-- A join into seat 0 keeps the rule.
use Rattle.std.proofs.Common.{◌≡◌, ◌≢◌, ℕ, zero, suc, ◌+◌, ◌*◌, ◌<◌, ◌≤◌, ◌⊎◌, true, false, List, [], map, length, set, get_or, sym, refl, ap, ◌∙◌, subst, ⊎_elim, inl, inr, arith, Option}
use mathlib.Core.Option.{some, some-ne-none}
use lib.ListN.{get_elem?}
use Rattle.atomic_table.specs.Table.{State, Joins}
use Rattle.atomic_table.proofs.Lists.{at_set, set_here, set_else}
use Rattle.quiet_table.specs.declared.view.Hand.{Hand}
use Rattle.quiet_table.specs.declared.view.View.{View}
use Rattle.quiet_table.specs.declared.item.Item.{Item}
use Rattle.quiet_table.specs.Contents.{Contents, pool, parcels_of}
use Rattle.quiet_table.specs.Views.{either_seen, spent_view, joined_view}
use Rattle.quiet_table.specs.BoardRule.{IsOut, Fits, AtHome, BoardRule, Waves, uncounted, handles}
use Rattle.quiet_table.proofs.SeatSums.{uncounted_same, stops_set, handles_set}
use Rattle.quiet_table.proofs.Counting.{waves_new}
use Rattle.quiet_table.proofs.Claims.{true_false, at_within, out_stays}

no_hand : {R E : Type 0} (a : ℕ) (h : Hand R E) → get_elem? {A = Hand R E} [] a ≡ some h → ⊥
no_hand zero h e = some-ne-none h (sym e)
no_hand (suc a) h e = some-ne-none h (sym e)

false_true : false ≡ true → ⊥
false_true e = cc

module _ {C B R E O : Type 0} (contents : Item C B → Contents R E) (legal : List R → List E → ℕ → Type 0) (origin : List R → O) (shards : ℕ) (from : O) where
  abbrev S : Type 0
  S = Option (Item C B)

  abbrev Rule : State S (View R E) → Type 0
  Rule = BoardRule contents legal origin shards from

  seen_kept : (words : List ℕ) (k m n : ℕ) → (m ≢ 0 → m ≡ get_or words k 0) → (n ≢ 0 → n ≡ get_or words k 0) → either_seen m n ≢ 0 → either_seen m n ≡ get_or words k 0
  seen_kept words k zero n a b = b
  seen_kept words k (suc m) n a b = a

  -- seat 0 takes in the seat whose number comes next, which holds nothing and has nothing uncounted
  pub joins : (id : ℕ) (v : View R E) (other : ℕ) (w : View R E) → v.live ≡ true → v.number ≡ 0 → w.live ≡ true → w.number ≡ v.joins + 1 → w.hands ≡ [] → w.uncounted ≡ 0 → Joins Rule id v other w (joined_view v w) spent_view
  joins id v other w live zeroth live2 next bare settled s r at apart there =
      let b : View R E = joined_view v w in
      let d : View R E = spent_view in
      let n = r.numbered in
      let one : List (View R E) = set s.views id b in
      let two : List (View R E) = set one other d in
      let there0 : get_elem? s.views other ≡ some w = sym (set_else s.views id other b apart) ∙ there in
      let here_b : get_elem? two id ≡ some b = set_else one other id d (λ e. apart (sym e)) ∙ set_here s.views id b (at_within s.views id v at) in
      let mine = n.among id v at live in
      let theirs = n.among other w there0 live2 in
      let kept = mine.1 zeroth in
      let low = (theirs.2 (λ q. absurd (omega arith))) in
      let Case : ℕ → View R E → Type 0 = λ j x. ((j ≡ other) × (d ≡ x)) ⊎ (((j ≡ id) × (b ≡ x)) ⊎ ((j ≢ other) × (j ≢ id) × (get_elem? s.views j ≡ some x))) in
      let cases : (j : ℕ) (x : View R E) → get_elem? two j ≡ some x → Case j x = λ j x e.
      ⊎_elim (λ (t : (j ≡ other) × (d ≡ x)). inl t)
      (λ (t : (j ≢ other) × (get_elem? one j ≡ some x)). ⊎_elim (λ (u : (j ≡ id) × (b ≡ x)). inr (inl u)) (λ (u : (j ≢ id) × (get_elem? s.views j ≡ some x)). inr (inr (t.0, u.0, u.1))) (at_set s.views id j b x t.1))
      (at_set one other j d x e) in
      let dead : (x : View R E) → d ≡ x → x.live ≡ true → ⊥ = λ x e l. false_true (ap (λ (z : View R E). z.live) e ∙ l) in
      let un1 : uncounted one ≡ uncounted s.views = uncounted_same s.views id v b at refl in
      let un2 : uncounted two ≡ uncounted one = uncounted_same one other w d there (sym settled) in
      let un : uncounted two ≡ uncounted s.views = un2 ∙ un1 in
      let st1 = stops_set s.views id v b at in
      let st2 = stops_set one other w d there in
      let ha1 = handles_set s.views id v b at in
      let ha2 = handles_set one other w d there in
      let flight : ℕ = length (pool (map parcels_of r.settled)) in
      let wv = r.counts.waves id v at in
      let ww = r.counts.waves other w there0 in
      record {
        settled = r.settled;
        some_shard = r.some_shard;
        wide = r.wide;
        deep = r.deep;
        full = r.full;
        numbered = record {
          most = n.most;
          gone = n.gone + 1;
          few = let e = theirs.0 in let g = kept.1 in omega arith;
          among = λ j x e l. ⊎_elim (λ (t : (j ≡ other) × (d ≡ x)). absurd (dead x t.1 l))
              (λ (t : ((j ≡ id) × (b ≡ x)) ⊎ ((j ≢ other) × (j ≢ id) × (get_elem? s.views j ≡ some x))). ⊎_elim
              (λ (u : (j ≡ id) × (b ≡ x)). subst (λ (z : View R E). (z.number ≤ n.most) × (z.number ≡ 0 → (z.splits ≡ n.most) × (z.joins ≡ n.gone + 1)) × (z.number ≢ 0 → (z.splits ≡ 0) × (n.gone + 1 < z.number))) u.1
              (mine.0, (λ _. (kept.0, ap (λ (z : ℕ). z + 1) kept.1)), λ q. absurd (q zeroth)))
              (λ (u : (j ≢ other) × (j ≢ id) × (get_elem? s.views j ≡ some x)). let m = n.among j x u.2 l in (
                m.0,
                (λ z. absurd (u.1 (n.apart j id x v u.2 at l live (z ∙ sym zeroth)))),
                λ z. let a = m.2 z in (a.0, let ne : x.number ≢ w.number = λ q. u.0 (n.apart j other x w u.2 there0 l live2 q) in let g = kept.1 in let h = a.1 in omega arith),
              ))
              t) (cases j x e);
          spent = λ j x e l. ⊎_elim (λ (t : (j ≡ other) × (d ≡ x)). (ap (λ (z : View R E). z.stops) (sym t.1), ap (λ (z : View R E). z.handled) (sym t.1)))
              (λ (t : ((j ≡ id) × (b ≡ x)) ⊎ ((j ≢ other) × (j ≢ id) × (get_elem? s.views j ≡ some x))). ⊎_elim
              (λ (u : (j ≡ id) × (b ≡ x)). absurd (true_false (sym live ∙ (ap (λ (z : View R E). z.live) u.1 ∙ l))))
              (λ (u : (j ≢ other) × (j ≢ id) × (get_elem? s.views j ≡ some x)). n.spent j x u.2 l) t) (cases j x e);
          apart = λ i j x y e f l m q.
              let old : (k : ℕ) (z : View R E) → get_elem? two k ≡ some z → z.live ≡ true → (o : View R E) × (get_elem? s.views k ≡ some o) × (o.live ≡ true) × (o.number ≡ z.number) = λ k z p h.
              ⊎_elim (λ (t : (k ≡ other) × (d ≡ z)). absurd (dead z t.1 h))
              (λ (t : ((k ≡ id) × (b ≡ z)) ⊎ ((k ≢ other) × (k ≢ id) × (get_elem? s.views k ≡ some z))). ⊎_elim
              (λ (u : (k ≡ id) × (b ≡ z)). (v, ap (get_elem? s.views) u.0 ∙ at, live, ap (λ (y : View R E). y.number) u.1))
              (λ (u : (k ≢ other) × (k ≢ id) × (get_elem? s.views k ≡ some z)). (z, u.2, h, refl)) t) (cases k z p) in
              let o1 = old i x e l in let o2 = old j y f m in n.apart i j o1.0 o2.0 o1.1 o2.1 o1.2 o2.2 (o1.3 ∙ (q ∙ sym o2.3));
        };
        each_slot = λ j l. ⊎_elim (λ (t : AtHome contents shards s r.settled j). inl t)
            (λ (t : IsOut s.views j). inr (out_stays one other w d j there (λ a h x y. absurd (no_hand a h (ap (λ z. get_elem? z a) (sym bare) ∙ x)))
            (out_stays s.views id v b j at (λ a h x y. (a, h, x, y)) t))) (r.each_slot j l);
        each_hand = λ j x a h e f. ⊎_elim (λ (t : (j ≡ other) × (d ≡ x)). absurd (no_hand a h (ap (λ (z : View R E). get_elem? z.hands a) t.1 ∙ f)))
            (λ (t : ((j ≡ id) × (b ≡ x)) ⊎ ((j ≢ other) × (j ≢ id) × (get_elem? s.views j ≡ some x))). ⊎_elim
            (λ (u : (j ≡ id) × (b ≡ x)). let old = r.each_hand id v a h at (ap (λ (z : View R E). get_elem? z.hands a) u.1 ∙ f) in
            subst (λ (z : View R E). Fits shards s.words r.settled z h) u.1 record { live = old.live; within = old.within; turn = old.turn; content = old.content })
            (λ (u : (j ≢ other) × (j ≢ id) × (get_elem? s.views j ≡ some x)). r.each_hand j x a h u.2 f) t) (cases j x e);
        apart = λ j x a c g h e f1 f2 q. ⊎_elim (λ (t : (j ≡ other) × (d ≡ x)). absurd (no_hand a g (ap (λ (z : View R E). get_elem? z.hands a) t.1 ∙ f1)))
            (λ (t : ((j ≡ id) × (b ≡ x)) ⊎ ((j ≢ other) × (j ≢ id) × (get_elem? s.views j ≡ some x))). ⊎_elim
            (λ (u : (j ≡ id) × (b ≡ x)). r.apart id v a c g h at (ap (λ (z : View R E). get_elem? z.hands a) u.1 ∙ f1) (ap (λ (z : View R E). get_elem? z.hands c) u.1 ∙ f2) q)
            (λ (u : (j ≢ other) × (j ≢ id) × (get_elem? s.views j ≡ some x)). r.apart j x a c g h u.2 f1 f2 q) t) (cases j x e);
        legal_now = rw un r.legal_now;
        counts = record {
          balanced = rw un r.counts.balanced;
          verdict = r.counts.verdict;
          quiet = rw un r.counts.quiet;
          waves = λ j x e. rw un (⊎_elim (λ (t : (j ≡ other) × (d ≡ x)). subst (λ (z : View R E). Waves shards s.words flight (uncounted s.views) z) t.1 (waves_new shards s.words flight (uncounted s.views) d r.some_shard refl refl refl))
              (λ (t : ((j ≡ id) × (b ≡ x)) ⊎ ((j ≢ other) × (j ≢ id) × (get_elem? s.views j ≡ some x))). ⊎_elim
              (λ (u : (j ≡ id) × (b ≡ x)). subst (λ (z : View R E). Waves shards s.words flight (uncounted s.views) z) u.1 record { one = wv.one; long = wv.long; two = wv.two; low = wv.low; saw = seen_kept s.words (4 * shards) v.seen w.seen wv.saw ww.saw })
              (λ (u : (j ≢ other) × (j ≢ id) × (get_elem? s.views j ≡ some x)). r.counts.waves j x u.2) t) (cases j x e));
        };
        handled = let same : handles s.views ≡ handles two = omega (arith, ha1, ha2) in r.handled ∙ same;
        stopped = λ q. let z = r.stopped q in omega arith;
        same_origin = r.same_origin;
      }

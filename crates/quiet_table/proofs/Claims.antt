-- Claims of a turn, and splits of seat 0, keep the rule.
use Rattle.std.proofs.Common.{◌≡◌, ◌≢◌, ℕ, zero, suc, eqb, ◌+◌, ◌*◌, ◌<◌, ◌≤◌, ◌⊎◌, true, false, List, [], ◌∷◌, ◌++◌, length, set, get_or, sym, refl, ap, ◌∙◌, subst, ⊎_elim, inl, inr, arith, Option, Some, length-set, get_or-set_other, get_or-set_same, eq-eqb, ne_eqb}
use Rattle.std.specs.Prelude.{IsPermutation}
use mathlib.Core.Logic.{dite}
use mathlib.Core.Option.{none, some, some-injective, some-ne-none}
use native.Mathlib.Decide.{ℕ_discrete}
use lib.ListN.{get_elem?}
use lib.Seq.{set-get_or}
use prog.Atomic.{either}
use Rattle.atomic_table.specs.Table.{State, Me, step, keeps, takes, stepped, Allows, Splits}
use Rattle.atomic_table.proofs.Lists.{at_set, set_here, set_else, at_snoc, at_longer}
use Rattle.quiet_table.specs.declared.view.Hand.{Hand}
use Rattle.quiet_table.specs.declared.view.View.{View}
use Rattle.quiet_table.specs.declared.item.Item.{Item}
use Rattle.quiet_table.specs.Contents.{Contents}
use Rattle.quiet_table.specs.Views.{found, hand_of, NotHeld, split_left, split_right}
use Rattle.quiet_table.specs.Hands.{InLegal}
use Rattle.quiet_table.specs.Told.{claimed}
use Rattle.quiet_table.specs.BoardRule.{Numbered, IsOut, Fits, AtHome, BoardRule}
use Rattle.quiet_table.proofs.Legal.{held_legal}
use Rattle.quiet_table.proofs.Pools.{span_set}
use Rattle.quiet_table.proofs.SeatSums.{uncounted_same, uncounted_split, stops_at_least, stops_more, handles_same, handles_split}
use Rattle.quiet_table.proofs.Counting.{SameCounts, waves_new, counts_turn, counts_stay, counts_split}

pub true_false : true ≡ false → ⊥
true_false e = cc

abbrev first_or : {A : Type 0} → A → List A → A
first_or d [] = d
first_or d (x ∷ xs) = x

pub at_within : {A : Type 0} (l : List A) (i : ℕ) (a : A) → get_elem? l i ≡ some a → i < length l
at_within [] i a e = absurd (some-ne-none a (sym e))
at_within (x ∷ xs) zero a e = omega arith
at_within (x ∷ xs) (suc i) a e = let h = at_within xs i a e in omega arith

at_last_or : {A : Type 0} (l : List A) (a b : A) (j : ℕ) → get_elem? (l ++ a ∷ []) j ≡ some b → (get_elem? l j ≡ some b) ⊎ ((j ≡ length l) × (a ≡ b))
at_last_or [] a b zero e = inr (refl, some-injective a b e)
at_last_or [] a b (suc j) e = absurd (some-ne-none b (sym e))
at_last_or (x ∷ xs) a b zero e = inl e
at_last_or (x ∷ xs) a b (suc j) e = ⊎_elim (λ (t : get_elem? xs j ≡ some b). inl t) (λ (t : (j ≡ length xs) × (a ≡ b)). let q = t.0 in inr ((omega arith), t.1)) (at_last_or xs a b j e)

module _ {R E : Type 0} where
  -- a seat's number, its splits and that it is live stay
  pub numbered_stays : (views : List (View R E)) (id : ℕ) (v w : View R E) → get_elem? views id ≡ some v → w.live ≡ v.live → w.number ≡ v.number → w.splits ≡ v.splits → w.joins ≡ v.joins → (v.live ≡ false → (w.stops ≡ v.stops) × (w.handled ≡ v.handled)) → Numbered views → Numbered (set views id w)
  numbered_stays views id v w at live number splits joins calm n =
      let old : (j : ℕ) (x : View R E) → get_elem? (set views id w) j ≡ some x → (y : View R E) × (get_elem? views j ≡ some y) × (x.live ≡ y.live) × (x.number ≡ y.number) × (x.splits ≡ y.splits) × (x.joins ≡ y.joins) =
      λ j x e. ⊎_elim (λ (t : (j ≡ id) × (w ≡ x)). (v, ap (get_elem? views) t.0 ∙ at, ap (λ (z : View R E). z.live) (sym t.1) ∙ live, ap (λ (z : View R E). z.number) (sym t.1) ∙ number, ap (λ (z : View R E). z.splits) (sym t.1) ∙ splits, ap (λ (z : View R E). z.joins) (sym t.1) ∙ joins))
      (λ (t : (j ≢ id) × (get_elem? views j ≡ some x)). (x, t.1, refl, refl, refl, refl)) (at_set views id j w x e) in
      record {
        most = n.most;
        gone = n.gone;
        few = n.few;
        among = λ j x e l. let o = old j x e in let m = n.among j o.0 o.1 (sym o.2 ∙ l) in (subst (λ z. z ≤ n.most) (sym o.3) m.0, (λ z. let a = m.1 (sym o.3 ∙ z) in (o.4 ∙ a.0, o.5 ∙ a.1)), λ z. let a = m.2 (λ q. z (o.3 ∙ q)) in (o.4 ∙ a.0, subst (λ (y : ℕ). n.gone < y) (sym o.3) a.1));
        spent = λ j x e l. ⊎_elim (λ (t : (j ≡ id) × (w ≡ x)). let dead : v.live ≡ false = sym live ∙ (ap (λ (z : View R E). z.live) t.1 ∙ l) in let same = calm dead in let none = n.spent id v at dead in (ap (λ (z : View R E). z.stops) (sym t.1) ∙ (same.0 ∙ none.0), ap (λ (z : View R E). z.handled) (sym t.1) ∙ (same.1 ∙ none.1))) (λ (t : (j ≢ id) × (get_elem? views j ≡ some x)). n.spent j x t.1 l) (at_set views id j w x e);
        apart = λ i j x y e f l m same. let o = old i x e in let p = old j y f in n.apart i j o.0 p.0 o.1 p.1 (sym o.2 ∙ l) (sym p.2 ∙ m) (sym o.3 ∙ (same ∙ p.3));
      }

  -- what a split leaves of each view
  numbered_split : (views : List (View R E)) (id : ℕ) (v : View R E) → get_elem? views id ≡ some v → v.live ≡ true → v.number ≡ 0 → Numbered views → Numbered (set views id (split_left v) ++ split_right v ∷ [])
  numbered_split views id v at live zeroth n =
      let w : View R E = split_left v in
      let o : View R E = split_right v in
      let vs : List (View R E) = set views id w in
      let keep = ((n.among id v at live).1) zeroth in let kept : v.splits ≡ n.most = keep.0 in let few = n.few in
      let cases : (j : ℕ) (x : View R E) → get_elem? (vs ++ o ∷ []) j ≡ some x → ((j ≡ id) × (w ≡ x)) ⊎ (((j ≢ id) × (get_elem? views j ≡ some x)) ⊎ ((j ≡ length vs) × (o ≡ x))) =
      λ j x e. ⊎_elim (λ (t : get_elem? vs j ≡ some x). ⊎_elim (λ (u : (j ≡ id) × (w ≡ x)). inl u) (λ (u : (j ≢ id) × (get_elem? views j ≡ some x)). inr (inl u)) (at_set views id j w x t))
      (λ (t : (j ≡ length vs) × (o ≡ x)). inr (inr t)) (at_last_or vs o x j e) in
      let Old : ℕ → View R E → Type 0 = λ j x. (y : View R E) × (get_elem? views j ≡ some y) × (x.live ≡ y.live) × (x.number ≡ y.number) in
      let old : (j : ℕ) (x : View R E) → get_elem? (vs ++ o ∷ []) j ≡ some x → Old j x ⊎ ((j ≡ length vs) × (o ≡ x)) =
      λ j x e. ⊎_elim (λ (t : (j ≡ id) × (w ≡ x)). let q : Old j x = (v, ap (get_elem? views) t.0 ∙ at, ap (λ (z : View R E). z.live) (sym t.1), ap (λ (z : View R E). z.number) (sym t.1)) in inl q)
      (λ (t : ((j ≢ id) × (get_elem? views j ≡ some x)) ⊎ ((j ≡ length vs) × (o ≡ x))). ⊎_elim (λ (u : (j ≢ id) × (get_elem? views j ≡ some x)). let q : Old j x = (x, u.1, refl, refl) in inl q) (λ (u : (j ≡ length vs) × (o ≡ x)). inr u) t) (cases j x e) in
      let low : (j : ℕ) (x : View R E) → Old j x → x.live ≡ true → x.number ≤ n.most =
      λ j x t l. subst (λ (z : ℕ). z ≤ n.most) (sym t.3) ((n.among j t.0 t.1 (sym t.2 ∙ l)).0) in
      record {
        most = n.most + 1;
        gone = n.gone;
        few = omega arith;
        among = λ j x e l. ⊎_elim
            (λ (t : (j ≡ id) × (w ≡ x)). let m = n.among id v at live in subst (λ (z : View R E). (z.number ≤ n.most + 1) × (z.number ≡ 0 → (z.splits ≡ n.most + 1) × (z.joins ≡ n.gone)) × (z.number ≢ 0 → (z.splits ≡ 0) × (n.gone < z.number))) t.1
            ((let b = m.0 in omega arith), (λ _. (ap (λ (z : ℕ). z + 1) kept, keep.1)), (λ z. absurd (z zeroth))))
            (λ (t : ((j ≢ id) × (get_elem? views j ≡ some x)) ⊎ ((j ≡ length vs) × (o ≡ x))). ⊎_elim
            (λ (u : (j ≢ id) × (get_elem? views j ≡ some x)). let m = n.among j x u.1 l in
            ((let b = m.0 in omega arith), (λ z. absurd (u.0 (n.apart j id x v u.1 at l live (z ∙ sym zeroth)))), m.2))
            (λ (u : (j ≡ length vs) × (o ≡ x)). subst (λ (z : View R E). (z.number ≤ n.most + 1) × (z.number ≡ 0 → (z.splits ≡ n.most + 1) × (z.joins ≡ n.gone)) × (z.number ≢ 0 → (z.splits ≡ 0) × (n.gone < z.number))) u.1
            ((let b = kept in omega arith), (λ z. absurd (omega arith)), (λ _. (refl, let b = kept in omega arith))))
            t)
            (cases j x e);
        spent = λ j x e l. ⊎_elim
            (λ (t : (j ≡ id) × (w ≡ x)). absurd (true_false (sym live ∙ (ap (λ (z : View R E). z.live) t.1 ∙ l))))
            (λ (t : ((j ≢ id) × (get_elem? views j ≡ some x)) ⊎ ((j ≡ length vs) × (o ≡ x))). ⊎_elim
            (λ (u : (j ≢ id) × (get_elem? views j ≡ some x)). n.spent j x u.1 l)
            (λ (u : (j ≡ length vs) × (o ≡ x)). absurd (true_false (ap (λ (z : View R E). z.live) u.1 ∙ l)))
            t)
            (cases j x e);
        apart = λ i j x y e f l m same. ⊎_elim
            (λ (t : Old i x). ⊎_elim
            (λ (u : Old j y). n.apart i j t.0 u.0 t.1 u.1 (sym t.2 ∙ l) (sym u.2 ∙ m) (sym t.3 ∙ (same ∙ u.3)))
            (λ (u : (j ≡ length vs) × (o ≡ y)). let b = low i x t l in let q : y.number ≡ v.splits + 1 = ap (λ (z : View R E). z.number) (sym u.1) in absurd (omega arith))
            (old j y f))
            (λ (t : (i ≡ length vs) × (o ≡ x)). let p : x.number ≡ v.splits + 1 = ap (λ (z : View R E). z.number) (sym t.1) in ⊎_elim
            (λ (u : Old j y). let b = low j y u m in absurd (omega arith))
            (λ (u : (j ≡ length vs) × (o ≡ y)). t.0 ∙ sym u.0)
            (old j y f))
            (old i x e);
      }

  -- a hand that is not the slot k's fits where that turn word changes
  pub fits_moves : (shards : ℕ) (words : List ℕ) (settled : List (Contents R E)) (v : View R E) (h : Hand R E) (k x : ℕ) → h.slot ≢ k → Fits shards words settled v h → Fits shards (set words k x) settled v h
  fits_moves shards words settled v h k x n f = record { live = f.live; within = f.within; turn = get_or-set_other words k h.slot x 0 n ∙ f.turn; content = f.content }

  -- a slot that is out stays out where no hand leaves
  pub out_stays : (views : List (View R E)) (id : ℕ) (v w : View R E) (k : ℕ) → get_elem? views id ≡ some v → ((i : ℕ) (h : Hand R E) → get_elem? v.hands i ≡ some h → h.slot ≡ k → (j : ℕ) × (g : Hand R E) × (get_elem? w.hands j ≡ some g) × (g.slot ≡ k))
      → IsOut views k → IsOut (set views id w) k
  out_stays views id v w k at moved o = dite (ℕ_discrete o.0 id)
      (λ e. let same : v ≡ o.1 = some-injective v o.1 (sym at ∙ (ap (get_elem? views) (sym e) ∙ o.4)) in
      let m = moved o.2 o.3 (ap (λ (z : View R E). get_elem? z.hands o.2) same ∙ o.5) o.6 in (id, w, m.0, m.1, set_here views id w (at_within views id v at), m.2, m.3))
      (λ n. (o.0, o.1, o.2, o.3, set_else views id o.0 w n ∙ o.4, o.5, o.6))

module _ {C B R E O : Type 0} (contents : Item C B → Contents R E) (legal : List R → List E → ℕ → Type 0) (origin : List R → O) (shards : ℕ) (from : O) where
  abbrev S : Type 0
  S = Option (Item C B)

  abbrev Rule : State S (View R E) → Type 0
  Rule = BoardRule contents legal origin shards from

  claim_hit : (s : State S (View R E)) (r : Rule s) (id k : ℕ) (v : View R E) → k < 2 * shards → get_elem? s.views id ≡ some v → v.live ≡ true → NotHeld k v.hands → (i : Item C B) → get_or s.words k 0 ≡ 0 → get_elem? r.settled k ≡ some (contents i)
      → Rule record { words = set s.words k (v.number + 1); homes = set s.homes k none; views = set s.views id (record v { hands = hand_of k (contents i) ∷ v.hands }) }
  claim_hit s r id k v within at live free i zero_word content =
      let w : View R E = record v { hands = hand_of k (contents i) ∷ v.hands } in
      let wide = r.wide in let deep = r.deep in
      let own : get_elem? (set s.views id w) id ≡ some w = set_here s.views id w (at_within s.views id v at) in
      record {
        settled = r.settled;
        some_shard = r.some_shard;
        wide = length-set s.words k (v.number + 1) ∙ r.wide;
        deep = length-set s.homes k none ∙ r.deep;
        full = r.full;
        numbered = numbered_stays s.views id v w at refl refl refl refl (λ _. (refl, refl)) r.numbered;
        each_slot = λ j l. dite (ℕ_discrete j k)
            (λ e. inr (id, w, 0, hand_of k (contents i), own, refl, sym e))
            (λ n. ⊎_elim (λ (t : AtHome contents shards s r.settled j). inl (t.0, get_or-set_other s.words k j (v.number + 1) 0 n ∙ t.1, set_else s.homes k j none n ∙ t.2, t.3, t.4))
            (λ (t : IsOut s.views j). inr (out_stays s.views id v w j at (λ a h x y. (suc a, h, x, y)) t)) (r.each_slot j l));
        each_hand = λ j x a h e f. ⊎_elim
            (λ (t : (j ≡ id) × (w ≡ x)). own_hand a h (subst (λ (z : View R E). get_elem? z.hands a ≡ some h) (sym t.1) f) x t.1)
            (λ (t : (j ≢ id) × (get_elem? s.views j ≡ some x)). let old = r.each_hand j x a h t.1 f in fits_moves shards s.words r.settled x h k (v.number + 1) (λ q. let u = old.turn in let z : get_or s.words h.slot 0 ≡ 0 = ap (λ y. get_or s.words y 0) q ∙ zero_word in absurd (omega arith)) old)
            (at_set s.views id j w x e);
        apart = λ j x a b g h e f1 f2 same. ⊎_elim
            (λ (t : (j ≡ id) × (w ≡ x)). own_apart a b g h (subst (λ (z : View R E). get_elem? z.hands a ≡ some g) (sym t.1) f1) (subst (λ (z : View R E). get_elem? z.hands b ≡ some h) (sym t.1) f2) same)
            (λ (t : (j ≢ id) × (get_elem? s.views j ≡ some x)). r.apart j x a b g h t.1 f1 f2 same)
            (at_set s.views id j w x e);
        legal_now = rw (span_set s.words (3 * shards) shards k (v.number + 1) (omega arith), uncounted_same s.views id v w at refl) r.legal_now;
        handled = span_set s.words (3 * shards) shards k (v.number + 1) (omega arith) ∙ (r.handled ∙ handles_same s.views id v w at refl);
        counts = counts_turn shards s.words s.views _ k (v.number + 1) id v w at (record { count = refl; one = refl; two = refl; saw = refl }) within r.counts;
        stopped = λ q. stops_at_least s.views id v w at (omega arith) (r.stopped (sym (get_or-set_other s.words k (4 * shards) (v.number + 1) 0 (λ e. omega arith)) ∙ q));
        same_origin = r.same_origin;
      }
    where
      own_hand : (a : ℕ) (h : Hand R E) → get_elem? (hand_of k (contents i) ∷ v.hands) a ≡ some h → (x : View R E) → record v { hands = hand_of k (contents i) ∷ v.hands } ≡ x → Fits shards (set s.words k (v.number + 1)) r.settled x h
      own_hand zero h e x same = let is : hand_of k (contents i) ≡ h = some-injective _ _ e in subst (λ (z : View R E × Hand R E). Fits shards (set s.words k (v.number + 1)) r.settled z.0 z.1) (λ c. (same c, is c))
          record { live = live; within = within; turn = get_or-set_same s.words k (v.number + 1) 0 (let wide = r.wide in omega arith); content = content }
      own_hand (suc a) h e x same = let old = r.each_hand id v a h at e in subst (λ (z : View R E). Fits shards (set s.words k (v.number + 1)) r.settled z h) same
          record { live = live; within = old.within; turn = get_or-set_other s.words k h.slot (v.number + 1) 0 (free a h e) ∙ old.turn; content = old.content }

      own_apart : (a b : ℕ) (g h : Hand R E) → get_elem? (hand_of k (contents i) ∷ v.hands) a ≡ some g → get_elem? (hand_of k (contents i) ∷ v.hands) b ≡ some h → g.slot ≡ h.slot → a ≡ b
      own_apart zero zero g h e f same = refl
      own_apart zero (suc b) g h e f same = absurd (free b h f (sym same ∙ ap (λ (z : Hand R E). z.slot) (sym (some-injective _ _ e))))
      own_apart (suc a) zero g h e f same = absurd (free a g e (same ∙ ap (λ (z : Hand R E). z.slot) (sym (some-injective _ _ f))))
      own_apart (suc a) (suc b) g h e f same = ap suc (r.apart id v a b g h at e f same)

  -- a step that changes no word, and in its seat's view only what the rule does not read
  pub claim_miss : (s : State S (View R E)) (r : Rule s) (id k : ℕ) (v w : View R E) → get_elem? s.views id ≡ some v → w.live ≡ v.live → w.number ≡ v.number → w.splits ≡ v.splits → w.joins ≡ v.joins → w.stops ≡ v.stops → w.handled ≡ v.handled → w.hands ≡ v.hands → SameCounts v w
      → Rule record { words = set s.words k (get_or s.words k 0); homes = s.homes; views = set s.views id w }
  claim_miss s r id k v w at live number splits joins same_stops same_handled hands same_counts =
      subst (λ (ws : List ℕ). Rule record { words = ws; homes = s.homes; views = set s.views id w }) (sym (set-get_or s.words k 0)) record {
        settled = r.settled;
        some_shard = r.some_shard;
        wide = r.wide;
        deep = r.deep;
        full = r.full;
        numbered = numbered_stays s.views id v w at live number splits joins (λ _. (same_stops, same_handled)) r.numbered;
        each_slot = λ j l. ⊎_elim (λ (t : AtHome contents shards s r.settled j). inl t)
            (λ (t : IsOut s.views j). inr (out_stays s.views id v w j at (λ a h x y. (a, h, ap (λ z. get_elem? z a) hands ∙ x, y)) t)) (r.each_slot j l);
        each_hand = λ j x a h e f. ⊎_elim
            (λ (t : (j ≡ id) × (w ≡ x)). let old = r.each_hand id v a h at (ap (λ z. get_elem? z a) (sym hands ∙ ap (λ (z : View R E). z.hands) t.1) ∙ f) in
            record { live = ap (λ (z : View R E). z.live) (sym t.1) ∙ live ∙ old.live; within = old.within; turn = old.turn ∙ ap (λ (z : ℕ). z + 1) (sym number ∙ ap (λ (z : View R E). z.number) t.1); content = old.content })
            (λ (t : (j ≢ id) × (get_elem? s.views j ≡ some x)). r.each_hand j x a h t.1 f)
            (at_set s.views id j w x e);
        apart = λ j x a b g h e f1 f2 same. ⊎_elim
            (λ (t : (j ≡ id) × (w ≡ x)). let q = sym hands ∙ ap (λ (z : View R E). z.hands) t.1 in r.apart id v a b g h at (ap (λ z. get_elem? z a) q ∙ f1) (ap (λ z. get_elem? z b) q ∙ f2) same)
            (λ (t : (j ≢ id) × (get_elem? s.views j ≡ some x)). r.apart j x a b g h t.1 f1 f2 same)
            (at_set s.views id j w x e);
        legal_now = rw (uncounted_same s.views id v w at same_counts.count) r.legal_now;
        handled = r.handled ∙ handles_same s.views id v w at same_handled;
        counts = counts_stay shards s.words s.views _ id v w at same_counts r.counts;
        stopped = λ q. stops_at_least s.views id v w at (omega arith) (r.stopped q);
        same_origin = r.same_origin;
      }

  -- a seat may try to take a slot that it does not hold
  pub claims : (froms : List O) → froms ≡ from ∷ [] → (any_order : (rests : List R) (es es' : List E) (total : ℕ) → IsPermutation es es' → legal rests es total → legal rests es' total) (id : ℕ) (me : Me S (View R E)) (k : ℕ) → k < 2 * shards → me.0.live ≡ true → NotHeld k me.0.hands
      → Allows Rule (2 * shards) id me k (λ n. either (eqb n 0) (me.0.number + 1) n) (claimed contents legal origin froms (step (2 * shards) k 0 (me.0.number + 1) none) me)
  claims froms picked any_order id me k within live free s r deep at _ =
      let n : ℕ = get_or s.words k 0 in
      let v : View R E = me.0 in
      dite (ℕ_discrete n 0)
      (λ hit. ⊎_elim
      (λ (t : AtHome contents shards s r.settled k).
      let w : View R E = record v { hands = hand_of k (contents t.0) ∷ v.hands } in (
        w,
        takes k (Some t.0),
        t.2,
        subst (λ b. Rule (stepped s k (either b (v.number + 1) n) id me.1 w (takes k (Some t.0)))) (sym (eq-eqb n 0 hit)) (claim_hit s r id k v within at live free t.0 hit t.4),
        (λ o e. subst (λ (z : O). InLegal legal origin (2 * shards) z w.hands) (ap (λ l. first_or from l) (sym picked ∙ e)) (held_legal contents legal origin any_order shards from _ (claim_hit s r id k v within at live free t.0 hit t.4) id w (set_here s.views id w (at_within s.views id v at))), (λ _. (t.0, t.3, refl)), λ miss. absurd (miss hit)),
      ))
      (λ (t : IsOut s.views k). let f = r.each_hand t.0 t.1 t.2 t.3 t.4 t.5 in let u = f.turn in let z : get_or s.words t.3.slot 0 ≡ 0 = ap (λ y. get_or s.words y 0) t.6 ∙ hit in absurd (omega arith))
      (r.each_slot k within))
      (λ miss.
      let w : View R E = found k n v in (
        w,
        keeps,
        tt,
        subst (λ b. Rule (stepped s k (either b (v.number + 1) n) id me.1 w keeps)) (sym (ne_eqb n 0 miss)) (claim_miss s r id k v w at refl refl refl refl refl refl refl (record { count = refl; one = refl; two = refl; saw = refl })),
        (λ o e. subst (λ (z : O). InLegal legal origin (2 * shards) z w.hands) (ap (λ l. first_or from l) (sym picked ∙ e)) (held_legal contents legal origin any_order shards from s r id v at), (λ hit. absurd (miss hit)), λ _. ((λ own. others s r id v k n at live free within own miss refl), refl)),
      ))
    where
      others : (s : State S (View R E)) (r : Rule s) (id : ℕ) (v : View R E) (k n : ℕ) → get_elem? s.views id ≡ some v → v.live ≡ true → NotHeld k v.hands → k < 2 * shards → n ≡ v.number + 1 → n ≢ 0 → get_or s.words k 0 ≡ n → ⊥
      others s r id v k n at live free within own miss is = ⊎_elim
          (λ (t : AtHome contents shards s r.settled k). miss (sym is ∙ t.1))
          (λ (t : IsOut s.views k).
          let f = r.each_hand t.0 t.1 t.2 t.3 t.4 t.5 in
          let u = f.turn in
          let z : get_or s.words t.3.slot 0 ≡ n = ap (λ y. get_or s.words y 0) t.6 ∙ is in
          let numbers : t.1.number ≡ v.number = omega arith in
          let same : t.0 ≡ id = r.numbered.apart t.0 id t.1 v t.4 at f.live live numbers in
          let views : t.1 ≡ v = some-injective t.1 v (sym t.4 ∙ (ap (get_elem? s.views) same ∙ at)) in
          free t.2 t.3 (ap (λ (y : View R E). get_elem? y.hands t.2) (sym views) ∙ t.5) t.6)
          (r.each_slot k within)

  -- seat 0 is split
  pub splits : (id : ℕ) (v : View R E) → v.live ≡ true → v.number ≡ 0 → Splits Rule id v (split_left v) (split_right v)
  splits id v live zeroth s r at =
      let w : View R E = split_left v in
      let o : View R E = split_right v in
      let views : List (View R E) = set s.views id w in
      let kept = ((r.numbered.among id v at live).1) zeroth in
      record {
        settled = r.settled;
        some_shard = r.some_shard;
        wide = r.wide;
        deep = r.deep;
        full = r.full;
        numbered = numbered_split s.views id v at live zeroth r.numbered;
        each_slot = λ j l. ⊎_elim (λ (t : AtHome contents shards s r.settled j). inl t)
            (λ (t : IsOut s.views j). let u = out_stays s.views id v w j at (λ a h x y. (a, h, x, y)) t in inr (u.0, u.1, u.2, u.3, at_longer views (o ∷ []) u.0 u.1 u.4, u.5, u.6)) (r.each_slot j l);
        each_hand = λ j x a h e f. ⊎_elim
            (λ (p : get_elem? views j ≡ some x). ⊎_elim
            (λ (t : (j ≡ id) × (w ≡ x)). let old = r.each_hand id v a h at (ap (λ (z : View R E). get_elem? z.hands a) t.1 ∙ f) in
            subst (λ (z : View R E). Fits shards s.words r.settled z h) t.1 record { live = old.live; within = old.within; turn = old.turn; content = old.content })
            (λ (t : (j ≢ id) × (get_elem? s.views j ≡ some x)). r.each_hand j x a h t.1 f)
            (at_set s.views id j w x p))
            (λ (p : o ≡ x). absurd (some-ne-none h (sym f ∙ ap (λ (z : View R E). get_elem? z.hands a) (sym p) ∙ nothing a)))
            (at_snoc views o x j e);
        apart = λ j x a b g h e f1 f2 same. ⊎_elim
            (λ (p : get_elem? views j ≡ some x). ⊎_elim
            (λ (t : (j ≡ id) × (w ≡ x)). r.apart id v a b g h at (ap (λ (z : View R E). get_elem? z.hands a) t.1 ∙ f1) (ap (λ (z : View R E). get_elem? z.hands b) t.1 ∙ f2) same)
            (λ (t : (j ≢ id) × (get_elem? s.views j ≡ some x)). r.apart j x a b g h t.1 f1 f2 same)
            (at_set s.views id j w x p))
            (λ (p : o ≡ x). absurd (some-ne-none g (sym f1 ∙ ap (λ (z : View R E). get_elem? z.hands a) (sym p) ∙ nothing a)))
            (at_snoc views o x j e);
        legal_now = rw (uncounted_split s.views id v w o at refl refl) r.legal_now;
        handled = r.handled ∙ handles_split s.views id v w o at refl refl;
        counts = counts_split shards s.words s.views _ id v w o at (record { count = refl; one = refl; two = refl; saw = refl }) refl (waves_new shards s.words _ _ o r.some_shard refl refl refl) r.counts;
        stopped = λ q. let a = stops_at_least s.views id v w at (omega arith) (r.stopped q) in let b = stops_more views o in omega arith;
        same_origin = r.same_origin;
      }
    where
      nothing : (a : ℕ) → get_elem? {A = Hand R E} [] a ≡ none
      nothing zero = refl
      nothing (suc a) = refl

  -- the same where the counts are known by equations
  pub claims_at : (froms : List O) → froms ≡ from ∷ [] → (any_order : (rests : List R) (es es' : List E) (total : ℕ) → IsPermutation es es' → legal rests es total → legal rests es' total) (slots new id : ℕ) (me : Me S (View R E)) (k : ℕ) → slots ≡ 2 * shards → new ≡ me.0.number + 1 → k < slots → me.0.live ≡ true → NotHeld k me.0.hands
      → Allows Rule slots id me k (λ n. either (eqb n 0) new n) (claimed contents legal origin froms (step slots k 0 new none) me)
  claims_at froms picked any_order slots new id me k e f within live free = rw (e, f) (claims froms picked any_order id me k (subst (λ z. k < z) e within) live free)

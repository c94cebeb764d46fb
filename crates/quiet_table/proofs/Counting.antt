-- The balance, the waves and the verdict under each kind of step, over numbers alone.
use Rattle.std.proofs.Common.{◌≡◌, ◌≢◌, ℕ, zero, suc, ◌+◌, ◌-◌, ◌*◌, ◌<◌, ◌≤◌, List, [], ◌∷◌, ◌++◌, length, set, get_or, take, sym, refl, ap, ◌∙◌, subst, ⊎_elim, inl, inr, arith, length-append, get_or-set_other, get_or-set_same}
use mathlib.Core.Logic.{dite}
use native.Mathlib.Decide.{ℕ_discrete, dec_le}
use mathlib.Core.Option.{some, some-ne-none}
use lib.ListN.{get_elem?}
use Rattle.atomic_table.proofs.Lists.{at_set, at_snoc}
use Rattle.quiet_table.specs.declared.view.View.{View}
use Rattle.quiet_table.specs.Words.{adds, span}
use Rattle.quiet_table.specs.BoardRule.{uncounted, reach, Waves, Counts}
use Rattle.quiet_table.proofs.SeatSums.{uncounted_set, uncounted_more, uncounted_same}
use Rattle.quiet_table.proofs.Spans.{span_front, span_set_in, span_set_out, less_or, within_of, adds_more, length_take, take_get, last_or, span_last, span_mono, adds_le}

module _ {R E : Type 0} where
  -- a new seat has read nothing
  pub waves_new : (shards : ℕ) (words : List ℕ) (flight n : ℕ) (o : View R E) → 0 < shards → o.first ≡ [] → o.second ≡ [] → o.seen ≡ 0 → Waves shards words flight n o
  waves_new shards words flight n o h e f g = record {
    one = λ k m a. absurd (nothing k m (ap (λ z. get_elem? z k) (sym e) ∙ a));
    long = rw (e, f) ((omega arith), (omega arith));
    two = rw e (λ q. absurd (omega arith));
    low = rw f (omega arith);
    saw = λ z. absurd (z g);
  }
    where
      nothing : (k m : ℕ) → get_elem? {A = ℕ} [] k ≡ some m → ⊥
      nothing zero m a = some-ne-none m (sym a)
      nothing (suc k) m a = some-ne-none m (sym a)

  pub record SameCounts (v w : View R E) : Type 0 where
    pub count : w.uncounted ≡ v.uncounted
    pub one : w.first ≡ v.first
    pub two : w.second ≡ v.second
    pub saw : w.seen ≡ v.seen

  waves_of : (shards : ℕ) (words : List ℕ) (flight n : ℕ) (v w : View R E) → SameCounts v w → Waves shards words flight n v → Waves shards words flight n w
  waves_of shards words flight n v w same a = record {
    one = λ k m e. a.one k m (ap (λ z. get_elem? z k) (sym same.one) ∙ e);
    long = rw (same.one, same.two) a.long;
    two = rw (same.one, same.two) a.two;
    low = rw same.two a.low;
    saw = rw same.saw a.saw;
  }

  -- a turn word is no count
  waves_turn : (shards : ℕ) (words : List ℕ) (flight n k x : ℕ) (v : View R E) → k < 2 * shards → Waves shards words flight n v → Waves shards (set words k x) flight n v
  waves_turn shards words flight n k x v h a = record {
    one = λ i m e. rw (get_or-set_other words k (3 * shards + i) x 0 (λ q. omega arith)) (a.one i m e);
    long = a.long;
    two = rw (span_set_out words (2 * shards + length v.second) (shards - length v.second) k x (inl (omega arith))) a.two;
    low = rw (span_set_out words (2 * shards) (length v.second) k x (inl h)) a.low;
    saw = rw (get_or-set_other words k (4 * shards) x 0 (λ q. omega arith)) a.saw;
  }

  pub counts_turn : (shards : ℕ) (words : List ℕ) (views : List (View R E)) (flight k x id : ℕ) (v w : View R E) → get_elem? views id ≡ some v → SameCounts v w → k < 2 * shards → Counts shards words views flight → Counts shards (set words k x) (set views id w) flight
  counts_turn shards words views flight k x id v w at same h c =
      let total : uncounted (set views id w) ≡ uncounted views = let r = uncounted_set views id v w at in let q = same.count in omega arith in record {
        balanced = rw (span_set_out words (2 * shards) shards k x (inl h), span_set_out words (3 * shards) shards k x (inl (omega arith)), total) c.balanced;
        verdict = rw (get_or-set_other words k (4 * shards) x 0 (λ q. omega arith)) c.verdict;
        quiet = rw (get_or-set_other words k (4 * shards) x 0 (λ q. omega arith), total) c.quiet;
        waves = λ j y e. rw total (waves_turn shards words flight (uncounted views) k x y h
            (⊎_elim (λ (t : (j ≡ id) × (w ≡ y)). subst (λ z. Waves shards words flight (uncounted views) z) t.1 (waves_of shards words flight (uncounted views) v w same (c.waves id v at)))
            (λ (t : (j ≢ id) × (get_elem? views j ≡ some y)). c.waves j y t.1) (at_set views id j w y e)));
      }

  pub counts_stay : (shards : ℕ) (words : List ℕ) (views : List (View R E)) (flight id : ℕ) (v w : View R E) → get_elem? views id ≡ some v → SameCounts v w → Counts shards words views flight → Counts shards words (set views id w) flight
  counts_stay shards words views flight id v w at same c =
      let total : uncounted (set views id w) ≡ uncounted views = uncounted_same views id v w at same.count in record {
        balanced = rw total c.balanced;
        verdict = c.verdict;
        quiet = rw total c.quiet;
        waves = λ j y e. rw total (⊎_elim (λ (t : (j ≡ id) × (w ≡ y)). subst (λ z. Waves shards words flight (uncounted views) z) t.1 (waves_of shards words flight (uncounted views) v w same (c.waves id v at)))
            (λ (t : (j ≢ id) × (get_elem? views j ≡ some y)). c.waves j y t.1) (at_set views id j w y e));
      }

  pub counts_split : (shards : ℕ) (words : List ℕ) (views : List (View R E)) (flight id : ℕ) (v w o : View R E) → get_elem? views id ≡ some v → SameCounts v w → o.uncounted ≡ 0 → Waves shards words flight (uncounted views) o → Counts shards words views flight → Counts shards words (set views id w ++ o ∷ []) flight
  counts_split shards words views flight id v w o at same blank new c =
      let total : uncounted (set views id w ++ o ∷ []) ≡ uncounted views = let r = uncounted_set views id v w at in let p = uncounted_more (set views id w) o in let q = same.count in omega arith in record {
        balanced = rw total c.balanced;
        verdict = c.verdict;
        quiet = rw total c.quiet;
        waves = λ j y e. rw total (⊎_elim
            (λ (p : get_elem? (set views id w) j ≡ some y). ⊎_elim (λ (t : (j ≡ id) × (w ≡ y)). subst (λ z. Waves shards words flight (uncounted views) z) t.1 (waves_of shards words flight (uncounted views) v w same (c.waves id v at)))
            (λ (t : (j ≢ id) × (get_elem? views j ≡ some y)). c.waves j y t.1) (at_set views id j w y p))
            (λ (p : o ≡ y). subst (λ z. Waves shards words flight (uncounted views) z) p new)
            (at_snoc (set views id w) o y j e));
      }

  -- a view's waves where the words, the flight and the uncounted change
  pub waves_go : (shards : ℕ) (words words' : List ℕ) (flight n flight' n' : ℕ) (v w : View R E) → w.first ≡ v.first → w.second ≡ v.second → w.seen ≡ v.seen
      → ((k : ℕ) → k < shards → get_or words (3 * shards + k) 0 ≤ get_or words' (3 * shards + k) 0) → get_or words' (4 * shards) 0 ≡ get_or words (4 * shards) 0
      → ((l : ℕ) → l ≤ shards → span words (2 * shards + l) (shards - l) ≤ span words' (2 * shards + l) (shards - l)) → ((l : ℕ) → l ≤ shards → span words (2 * shards) l ≤ span words' (2 * shards) l) → (flight ≡ 0 → n ≡ 0 → (flight' ≡ 0) × (n' ≡ 0)) → Waves shards words flight n v → Waves shards words' flight' n' w
  waves_go shards words words' flight n flight' n' v w same_one same_two same_seen up verdict more early left a = record {
    one = λ k m e. let e' : get_elem? v.first k ≡ some m = ap (λ z. get_elem? z k) (sym same_one) ∙ e in let b = a.one k m e' in let l = a.long.0 in let u = up k (let i = within_of v.first k m e' in omega arith) in omega arith;
    long = rw (same_one, same_two) a.long;
    two = rw (same_one, same_two) (λ q. let b = a.two q in let b0 = b.0 in let m = more (length v.second) a.long.1 in ((omega arith), λ e. let z = b.1 (omega arith) in left z.0 z.1));
    low = rw same_two (let b = a.low in let m = early (length v.second) a.long.1 in omega arith);
    saw = rw (same_seen, verdict) a.saw;
  }

  -- the sent step of a turn
  pub counts_sent : (shards : ℕ) (words : List ℕ) (views : List (View R E)) (flight flight' id : ℕ) (v w : View R E) (s sent handled : ℕ) → get_elem? views id ≡ some v → w.first ≡ v.first → w.second ≡ v.second → w.seen ≡ v.seen → w.uncounted ≡ v.uncounted + handled
      → s < shards → length words ≡ 4 * shards + 1 → flight + sent ≡ flight' + handled → (flight ≡ 0 → handled ≡ 0) → (0 < sent → 0 < handled) → Counts shards words views flight
      → Counts shards (set words (2 * shards + s) (get_or words (2 * shards + s) 0 + sent)) (set views id w) flight'
  counts_sent shards words views flight flight' id v w s sent handled at same_one same_two same_seen open_more within wide balance idle after c =
      let k : ℕ = 2 * shards + s in
      let x : ℕ = get_or words k 0 + sent in
      let total : uncounted (set views id w) ≡ uncounted views + handled = let r = uncounted_set views id v w at in omega arith in
      let grown : span (set words k x) (2 * shards) shards ≡ span words (2 * shards) shards + sent = let r = span_set_in words (2 * shards) shards k x (omega arith) (omega arith) (omega arith) in omega arith in
      let left : flight ≡ 0 → uncounted views ≡ 0 → (flight' ≡ 0) × (uncounted (set views id w) ≡ 0) = λ a b. let h : handled ≡ 0 = idle a in let z : sent ≡ 0 = dite (dec_le sent 0) (λ q. omega arith) (λ q. let low : 0 < sent = omega arith in let p = after low in absurd (omega arith)) in ((omega arith), (omega arith)) in
      let up : (i : ℕ) → i < shards → get_or words (3 * shards + i) 0 ≤ get_or (set words k x) (3 * shards + i) 0 = λ i l. rw (get_or-set_other words k (3 * shards + i) x 0 (λ e. omega arith)) (omega arith) in
      let verdict : get_or (set words k x) (4 * shards) 0 ≡ get_or words (4 * shards) 0 = get_or-set_other words k (4 * shards) x 0 (λ e. omega arith) in
      let more : (l : ℕ) → l ≤ shards → span words (2 * shards + l) (shards - l) ≤ span (set words k x) (2 * shards + l) (shards - l) =
      λ l h. ⊎_elim (λ (t : s < l). rw (span_set_out words (2 * shards + l) (shards - l) k x (inl (omega arith))) (omega arith))
      (λ (t : l ≤ s). let r = span_set_in words (2 * shards + l) (shards - l) k x (omega arith) (omega arith) (omega arith) in omega arith) (less_or s l) in
      let early : (l : ℕ) → l ≤ shards → span words (2 * shards) l ≤ span (set words k x) (2 * shards) l =
      λ l h. ⊎_elim (λ (t : s < l). let r = span_set_in words (2 * shards) l k x (omega arith) (omega arith) (omega arith) in omega arith)
      (λ (t : l ≤ s). rw (span_set_out words (2 * shards) l k x (inr (omega arith))) (omega arith)) (less_or s l) in
      record {
        balanced = let b = c.balanced in rw (grown, span_set_out words (3 * shards) shards k x (inl (omega arith))) (omega arith);
        verdict = rw verdict c.verdict;
        quiet = λ q. let z = c.quiet (sym verdict ∙ q) in left z.0 z.1;
        waves = λ j y e. ⊎_elim
            (λ (t : (j ≡ id) × (w ≡ y)). subst (λ z. Waves shards (set words k x) flight' (uncounted (set views id w)) z) t.1
            (waves_go shards words (set words k x) flight (uncounted views) flight' (uncounted (set views id w)) v w same_one same_two same_seen up verdict more early left (c.waves id v at)))
            (λ (t : (j ≢ id) × (get_elem? views j ≡ some y)). waves_go shards words (set words k x) flight (uncounted views) flight' (uncounted (set views id w)) y y refl refl refl up verdict more early left (c.waves j y t.1))
            (at_set views id j w y e);
      }

  -- the handled step of a turn
  pub counts_handled : (shards : ℕ) (words : List ℕ) (views : List (View R E)) (flight id : ℕ) (v w : View R E) (s handled : ℕ) → get_elem? views id ≡ some v → w.first ≡ v.first → w.second ≡ v.second → w.seen ≡ v.seen → w.uncounted + handled ≡ v.uncounted
      → s < shards → length words ≡ 4 * shards + 1 → Counts shards words views flight
      → Counts shards (set words (3 * shards + s) (get_or words (3 * shards + s) 0 + handled)) (set views id w) flight
  counts_handled shards words views flight id v w s handled at same_one same_two same_seen open_less within wide c =
      let k : ℕ = 3 * shards + s in
      let x : ℕ = get_or words k 0 + handled in
      let total : uncounted (set views id w) + handled ≡ uncounted views = let r = uncounted_set views id v w at in omega arith in
      let grown : span (set words k x) (3 * shards) shards ≡ span words (3 * shards) shards + handled = let r = span_set_in words (3 * shards) shards k x (omega arith) (omega arith) (omega arith) in omega arith in
      let left : flight ≡ 0 → uncounted views ≡ 0 → (flight ≡ 0) × (uncounted (set views id w) ≡ 0) = λ a b. (a, omega arith) in
      let up : (i : ℕ) → i < shards → get_or words (3 * shards + i) 0 ≤ get_or (set words k x) (3 * shards + i) 0 =
      λ i l. dite (ℕ_discrete i s) (λ e. let q : 3 * shards + i ≡ k = omega arith in let r : get_or (set words k x) (3 * shards + i) 0 ≡ x = ap (λ z. get_or (set words k x) z 0) q ∙ get_or-set_same words k x 0 (omega arith) in let p : get_or words (3 * shards + i) 0 ≡ get_or words k 0 = ap (λ z. get_or words z 0) q in omega arith)
      (λ n. rw (get_or-set_other words k (3 * shards + i) x 0 (λ e. n (omega arith))) (omega arith)) in
      let verdict : get_or (set words k x) (4 * shards) 0 ≡ get_or words (4 * shards) 0 = get_or-set_other words k (4 * shards) x 0 (λ e. omega arith) in
      let more : (l : ℕ) → l ≤ shards → span words (2 * shards + l) (shards - l) ≤ span (set words k x) (2 * shards + l) (shards - l) = λ l h. rw (span_set_out words (2 * shards + l) (shards - l) k x (inr (omega arith))) (omega arith) in
      let early : (l : ℕ) → l ≤ shards → span words (2 * shards) l ≤ span (set words k x) (2 * shards) l = λ l h. rw (span_set_out words (2 * shards) l k x (inr (omega arith))) (omega arith) in
      record {
        balanced = let b = c.balanced in rw (grown, span_set_out words (2 * shards) shards k x (inr (omega arith))) (omega arith);
        verdict = rw verdict c.verdict;
        quiet = λ q. let z = c.quiet (sym verdict ∙ q) in left z.0 z.1;
        waves = λ j y e. ⊎_elim
            (λ (t : (j ≡ id) × (w ≡ y)). subst (λ z. Waves shards (set words k x) flight (uncounted (set views id w)) z) t.1
            (waves_go shards words (set words k x) flight (uncounted views) flight (uncounted (set views id w)) v w same_one same_two same_seen up verdict more early left (c.waves id v at)))
            (λ (t : (j ≢ id) × (get_elem? views j ≡ some y)). waves_go shards words (set words k x) flight (uncounted views) flight (uncounted (set views id w)) y y refl refl refl up verdict more early left (c.waves j y t.1))
            (at_set views id j w y e);
      }

  -- a step that changes no word, and of its seat's counts only the waves
  pub counts_view : (shards : ℕ) (words : List ℕ) (views : List (View R E)) (flight id : ℕ) (v w : View R E) → get_elem? views id ≡ some v → w.uncounted ≡ v.uncounted → (Waves shards words flight (uncounted views) v → Waves shards words flight (uncounted views) w) → Counts shards words views flight → Counts shards words (set views id w) flight
  counts_view shards words views flight id v w at same go c =
      let total : uncounted (set views id w) ≡ uncounted views = uncounted_same views id v w at same in record {
        balanced = rw total c.balanced;
        verdict = c.verdict;
        quiet = rw total c.quiet;
        waves = λ j y e. rw total (⊎_elim (λ (t : (j ≡ id) × (w ≡ y)). subst (λ z. Waves shards words flight (uncounted views) z) t.1 (go (c.waves id v at)))
            (λ (t : (j ≢ id) × (get_elem? views j ≡ some y)). c.waves j y t.1) (at_set views id j w y e));
      }

  -- a read of the first wave
  pub waves_first : (shards : ℕ) (words : List ℕ) (views : List (View R E)) (flight k : ℕ) (v : View R E) → k < shards → k ≤ length v.first → length words ≡ 4 * shards + 1 → Counts shards words views flight → Waves shards words flight (uncounted views) v
      → Waves shards words flight (uncounted views) (record v { first = take k v.first ++ get_or words (3 * shards + k) 0 ∷ []; second = [] })
  waves_first shards words views flight k v within old wide c a =
      let n : ℕ = get_or words (3 * shards + k) 0 in
      let long : length (take k v.first) ≡ k = length_take k v.first old in
      let long' : length (take k v.first ++ n ∷ []) ≡ k + 1 = let q = length-append (take k v.first) (n ∷ []) in omega arith in
      let one : (i m : ℕ) → get_elem? (take k v.first ++ n ∷ []) i ≡ some m → m ≤ get_or words (3 * shards + i) 0 =
      λ i m e. ⊎_elim (λ (t : get_elem? (take k v.first) i ≡ some m). a.one i m (take_get k v.first i m t))
      (λ (t : (i ≡ length (take k v.first)) × (n ≡ m)). let q : i ≡ k = t.0 ∙ long in let z : get_or words (3 * shards + i) 0 ≡ n = ap (λ y. get_or words (3 * shards + y) 0) q in let u = t.1 in omega arith) (last_or (take k v.first) n m i e) in
      record {
        one = one;
        long = ((omega arith), (omega arith));
        two = λ q.
            let sum_low = adds_le (take k v.first ++ n ∷ []) words (3 * shards) (omega arith) one in
            let low : adds (take k v.first ++ n ∷ []) ≤ span words (3 * shards) shards = subst (λ z. adds (take k v.first ++ n ∷ []) ≤ span words (3 * shards) z) q sum_low in
            let b = c.balanced in
            let e1 : 2 * shards + 0 ≡ 2 * shards = omega arith in let e2 : shards - 0 ≡ shards = omega arith in
            rw (e1, e2) ((omega arith), λ e. ((omega arith), (omega arith)));
        low = omega arith;
        saw = a.saw;
      }

  -- a read of the second wave
  pub waves_second : (shards : ℕ) (words : List ℕ) (flight open_count : ℕ) (v : View R E) → length v.second < shards → length words ≡ 4 * shards + 1 → Waves shards words flight open_count v
      → Waves shards words flight open_count (record v { second = v.second ++ get_or words (2 * shards + length v.second) 0 ∷ [] })
  waves_second shards words flight open_count v within wide a =
      let l : ℕ = length v.second in
      let n : ℕ = get_or words (2 * shards + l) 0 in
      let long' : length (v.second ++ n ∷ []) ≡ l + 1 = length-append v.second (n ∷ []) in
      let sums : adds (v.second ++ n ∷ []) ≡ adds v.second + n = adds_more v.second n in
      let front = span_front words (2 * shards + l) (shards - (l + 1)) (omega arith) in
      let e1 : shards - l ≡ suc (shards - (l + 1)) = omega arith in
      let e2 : 2 * shards + (l + 1) ≡ suc (2 * shards + l) = omega arith in
      let same : adds (v.second ++ n ∷ []) + span words (2 * shards + length (v.second ++ n ∷ [])) (shards - length (v.second ++ n ∷ [])) ≡ reach shards words v =
      rw (sums, long', e1, e2) (omega (arith, front)) in
      let grown : span words (2 * shards) (l + 1) ≡ span words (2 * shards) l + n = let q : l + 1 ≡ suc l = omega arith in rw q (span_last words (2 * shards) l (2 * shards + l) refl (omega arith)) in
      record { one = a.one; long = (a.long.0, omega arith); two = rw same a.two; low = rw (sums, long', grown) (let b = a.low in omega arith); saw = a.saw }

  -- the verdict becomes x, and Quiet only where nothing is in flight or uncounted
  pub counts_declared : (shards : ℕ) (words : List ℕ) (views : List (View R E)) (flight id x : ℕ) (v w : View R E) → get_elem? views id ≡ some v → w.first ≡ v.first → w.second ≡ v.second → w.seen ≡ x → w.uncounted ≡ v.uncounted
      → length words ≡ 4 * shards + 1 → 0 < shards → get_or words (4 * shards) 0 ≡ 0 → x ≤ 2 → (x ≡ 1 → (flight ≡ 0) × (uncounted views ≡ 0)) → Counts shards words views flight → Counts shards (set words (4 * shards) x) (set views id w) flight
  counts_declared shards words views flight id x v w at same_one same_two seen same wide low running small calm c =
      let k : ℕ = 4 * shards in
      let total : uncounted (set views id w) ≡ uncounted views = uncounted_same views id v w at same in
      let here : get_or (set words k x) k 0 ≡ x = get_or-set_same words k x 0 (omega arith) in
      let kept : (y z : View R E) → z.first ≡ y.first → z.second ≡ y.second → (z.seen ≢ 0 → z.seen ≡ x) → Waves shards words flight (uncounted views) y → Waves shards (set words k x) flight (uncounted (set views id w)) z =
      λ y z e f g a. record {
        one = λ i m q. let q' : get_elem? y.first i ≡ some m = ap (λ z. get_elem? z i) (sym e) ∙ q in let b = within_of y.first i m q' in let l = a.long.0 in rw (get_or-set_other words k (3 * shards + i) x 0 (λ q. omega arith)) (a.one i m q');
        long = rw (e, f) a.long;
        two = rw (e, f, total) (rw (span_set_out words (2 * shards + length y.second) (shards - length y.second) k x (let l = a.long.1 in inr (omega arith))) a.two);
        low = rw f (rw (span_set_out words (2 * shards) (length y.second) k x (let l = a.long.1 in inr (omega arith))) a.low);
        saw = λ q. g q ∙ sym here;
      } in
      record {
        balanced = rw (span_set_out words (2 * shards) shards k x (inr (omega arith)), span_set_out words (3 * shards) shards k x (inr (omega arith)), total) c.balanced;
        verdict = rw here small;
        quiet = λ q. let z = calm (sym here ∙ q) in (z.0, total ∙ z.1);
        waves = λ j y e. ⊎_elim
            (λ (t : (j ≡ id) × (w ≡ y)). subst (λ z. Waves shards (set words k x) flight (uncounted (set views id w)) z) t.1 (kept v w same_one same_two (λ _. seen) (c.waves id v at)))
            (λ (t : (j ≢ id) × (get_elem? views j ≡ some y)). let a = c.waves j y t.1 in kept y y refl refl (λ q. absurd (q (a.saw q ∙ running))) a)
            (at_set views id j w y e);
      }

  -- the numbers of a view's waves add up to at most the words
  pub first_low : (shards : ℕ) (words : List ℕ) (flight n : ℕ) (v : View R E) → length words ≡ 4 * shards + 1 → Waves shards words flight n v → adds v.first ≤ span words (3 * shards) shards
  first_low shards words flight n v wide a =
      let l = a.long.0 in
      let b = adds_le v.first words (3 * shards) (omega arith) a.one in
      let m = span_mono words (3 * shards) (length v.first) shards l in
      omega arith

  pub second_low : (shards : ℕ) (words : List ℕ) (flight n : ℕ) (v : View R E) → Waves shards words flight n v → adds v.second ≤ span words (2 * shards) shards
  second_low shards words flight n v a = let b = a.low in let m = span_mono words (2 * shards) (length v.second) shards a.long.1 in omega arith

  pub counts_view_to : (shards : ℕ) (words : List ℕ) (views : List (View R E)) (flight id : ℕ) (v w : View R E) → get_elem? views id ≡ some v → w.uncounted ≡ v.uncounted → Waves shards words flight (uncounted views) w → Counts shards words views flight → Counts shards words (set views id w) flight
  counts_view_to shards words views flight id v w at same new c = counts_view shards words views flight id v w at same (λ _. new) c

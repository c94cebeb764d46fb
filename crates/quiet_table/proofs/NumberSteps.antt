-- Steps that change numbers alone keep the rule: count handled, both waves, declare, stop, and a look at the verdict.
use Rattle.std.proofs.Common.{◌≡◌, ◌≢◌, ℕ, eqb, ◌+◌, ◌-◌, ◌*◌, ◌%◌, ◌^◌, ◌<◌, ◌≤◌, true, false, List, [], ◌∷◌, ◌++◌, map, length, set, get_or, take, sym, refl, ap, ◌∙◌, subst, ⊎_elim, inl, inr, arith, Option, length-set, get_or-set_other, get_or-set_same, eq-eqb, ne_eqb}
use mathlib.Core.Logic.{dite}
use mathlib.Core.Option.{none, some}
use native.Mathlib.Decide.{ℕ_discrete}
use lib.ListN.{get_elem?}
use lib.Seq.{set-get_or}
use prog.Atomic.{either}
use Rattle.atomic_table.specs.Table.{State, Me, step, keeps, stepped, Allows}
use Rattle.atomic_table.proofs.Lists.{at_set}
use Rattle.quiet_table.specs.declared.view.View.{View}
use Rattle.quiet_table.specs.declared.item.Item.{Item}
use Rattle.quiet_table.specs.Contents.{Contents, rest_of, parcels_of, pool}
use Rattle.quiet_table.specs.Words.{adds, span}
use Rattle.quiet_table.specs.Told.{handled_told, first_told, second_told, declare_told, stop_told, verdict_told}
use Rattle.quiet_table.specs.BoardRule.{reach, Waves, Counts, IsOut, AtHome, BoardRule, uncounted, stops, handles}
use Rattle.quiet_table.proofs.Spans.{span_set_in, span_set_out, span_get}
use Rattle.quiet_table.proofs.SeatSums.{uncounted_set, uncounted_same, stops_set, stops_at_least, handles_set, handles_same}
use Rattle.quiet_table.proofs.Counting.{counts_handled, counts_view, counts_declared, waves_first, waves_second, first_low, second_low}
use Rattle.quiet_table.proofs.Claims.{true_false, numbered_stays, out_stays}

module _ {C B R E O : Type 0} (contents : Item C B → Contents R E) (legal : List R → List E → ℕ → Type 0) (origin : List R → O) (bounded : (rests : List R) (es : List E) (total : ℕ) → legal rests es total → total + length es < 2 ^ 62) (shards : ℕ) (from : O) where
  abbrev S : Type 0
  S = Option (Item C B)

  abbrev Rule : State S (View R E) → Type 0
  Rule = BoardRule contents legal origin shards from

  -- a step that changes numbers alone
  number_step : (s : State S (View R E)) (r : Rule s) (id k x : ℕ) (v w : View R E) → get_elem? s.views id ≡ some v → w.live ≡ v.live → w.number ≡ v.number → w.splits ≡ v.splits → w.joins ≡ v.joins → (v.live ≡ false → (w.stops ≡ v.stops) × (w.handled ≡ v.handled)) → w.hands ≡ v.hands → 2 * shards ≤ k
      → span (set s.words k x) (3 * shards) shards + uncounted (set s.views id w) ≡ span s.words (3 * shards) shards + uncounted s.views → span (set s.words k x) (3 * shards) shards ≡ handles (set s.views id w) → (get_or (set s.words k x) (4 * shards) 0 ≡ 2 → 1 ≤ stops (set s.views id w)) → Counts shards (set s.words k x) (set s.views id w) (length (pool (map parcels_of r.settled)))
      → Rule record { words = set s.words k x; homes = s.homes; views = set s.views id w }
  number_step s r id k x v w at live number splits joins calm hands high same_total handled stopped counts = record {
    settled = r.settled;
    some_shard = r.some_shard;
    wide = length-set s.words k x ∙ r.wide;
    deep = r.deep;
    full = r.full;
    numbered = numbered_stays s.views id v w at live number splits joins calm r.numbered;
    each_slot = λ j l. ⊎_elim (λ (t : AtHome contents shards s r.settled j). inl (t.0, get_or-set_other s.words k j x 0 (λ q. omega arith) ∙ t.1, t.2, t.3, t.4))
        (λ (t : IsOut s.views j). inr (out_stays s.views id v w j at (λ a h p q. (a, h, ap (λ z. get_elem? z a) hands ∙ p, q)) t)) (r.each_slot j l);
    each_hand = λ j y a h e f. ⊎_elim
        (λ (t : (j ≡ id) × (w ≡ y)).
        let old = r.each_hand id v a h at (ap (λ z. get_elem? z a) (sym hands ∙ ap (λ (z : View R E). z.hands) t.1) ∙ f) in
        let low = old.within in
        record { live = ap (λ (z : View R E). z.live) (sym t.1) ∙ live ∙ old.live; within = old.within; turn = get_or-set_other s.words k h.slot x 0 (λ q. omega arith) ∙ (old.turn ∙ ap (λ (z : ℕ). z + 1) (sym number ∙ ap (λ (z : View R E). z.number) t.1)); content = old.content })
        (λ (t : (j ≢ id) × (get_elem? s.views j ≡ some y)). let old = r.each_hand j y a h t.1 f in let low = old.within in
        record { live = old.live; within = old.within; turn = get_or-set_other s.words k h.slot x 0 (λ q. omega arith) ∙ old.turn; content = old.content })
        (at_set s.views id j w y e);
    apart = λ j y a b g h e f1 f2 same. ⊎_elim
        (λ (t : (j ≡ id) × (w ≡ y)). let q = sym hands ∙ ap (λ (z : View R E). z.hands) t.1 in r.apart id v a b g h at (ap (λ z. get_elem? z a) q ∙ f1) (ap (λ z. get_elem? z b) q ∙ f2) same)
        (λ (t : (j ≢ id) × (get_elem? s.views j ≡ some y)). r.apart j y a b g h t.1 f1 f2 same)
        (at_set s.views id j w y e);
    legal_now = subst (λ z. legal (map rest_of r.settled) (pool (map parcels_of r.settled)) z) (sym same_total) r.legal_now;
    counts = counts;
    handled = handled;
    stopped = stopped;
    same_origin = r.same_origin;
  }

  -- the handled step
  pub adds_handled : (id : ℕ) (me : Me S (View R E)) (q handled : ℕ) → q < shards → me.0.live ≡ true → handled ≤ me.0.uncounted → Allows Rule (2 * shards) id me (3 * shards + q) (λ n. (n + handled) % 2 ^ 64) (handled_told (step (2 * shards) (3 * shards + q) handled 0 none) me)
  adds_handled id me q handled within live enough s r deep at _ =
      let v : View R E = me.0 in
      let w : View R E = record v { uncounted = v.uncounted - handled; handled = v.handled + handled } in
      let k : ℕ = 3 * shards + q in
      let n : ℕ = get_or s.words k 0 in
      let wide = r.wide in
      let less : w.uncounted + handled ≡ v.uncounted = omega arith in
      let total : uncounted (set s.views id w) + handled ≡ uncounted s.views = let p = uncounted_set s.views id v w at in omega arith in
      let more : handles (set s.views id w) ≡ handles s.views + handled = let p = handles_set s.views id v w at in omega arith in
      let sums : span s.words (3 * shards) shards ≡ handles s.views = r.handled in
      let small = bounded _ _ _ r.legal_now in
      let low = span_get s.words (3 * shards) shards k (omega arith) (omega arith) (omega arith) in
      let fits : (n + handled) % 18446744073709551616 ≡ n + handled = omega arith in
      let grown : span (set s.words k (n + handled)) (3 * shards) shards ≡ span s.words (3 * shards) shards + handled = let p = span_set_in s.words (3 * shards) shards k (n + handled) (omega arith) (omega arith) (omega arith) in omega arith in (
        w,
        keeps,
        tt,
        subst (λ z. Rule record { words = set s.words k z; homes = s.homes; views = set s.views id w }) (sym fits)
            (number_step s r id k (n + handled) v w at refl refl refl refl (λ d. absurd (true_false (sym live ∙ d))) refl (omega arith) (omega arith) (omega arith) (λ q. stops_at_least s.views id v w at (omega arith) (r.stopped (sym (get_or-set_other s.words k (4 * shards) (n + handled) 0 (λ e. omega arith)) ∙ q))) (counts_handled shards s.words s.views _ id v w q handled at refl refl refl less within wide r.counts)),
        refl,
      )

  -- a load that changes a view's waves
  wave_load : (s : State S (View R E)) (r : Rule s) (id k : ℕ) (v w : View R E) → get_elem? s.views id ≡ some v → w.live ≡ v.live → w.number ≡ v.number → w.splits ≡ v.splits → w.joins ≡ v.joins → (v.live ≡ false → (w.stops ≡ v.stops) × (w.handled ≡ v.handled)) → v.stops ≤ w.stops → w.handled ≡ v.handled → w.hands ≡ v.hands → w.uncounted ≡ v.uncounted → 2 * shards ≤ k
      → (Waves shards s.words (length (pool (map parcels_of r.settled))) (uncounted s.views) v → Waves shards s.words (length (pool (map parcels_of r.settled))) (uncounted s.views) w)
      → Rule record { words = set s.words k (get_or s.words k 0); homes = s.homes; views = set s.views id w }
  wave_load s r id k v w at live number splits joins calm more same_handled hands same high go =
      number_step s r id k (get_or s.words k 0) v w at live number splits joins calm hands high
      (rw (set-get_or s.words k 0, uncounted_same s.views id v w at same) refl)
      (rw (set-get_or s.words k 0) (r.handled ∙ handles_same s.views id v w at same_handled))
      (rw (set-get_or s.words k 0) (λ q. stops_at_least s.views id v w at more (r.stopped q)))
      (rw (set-get_or s.words k 0) (counts_view shards s.words s.views _ id v w at same go r.counts))

  pub reads_first : (id : ℕ) (me : Me S (View R E)) (k : ℕ) → k < shards → k ≤ length me.0.first → Allows Rule (2 * shards) id me (3 * shards + k) (λ n. n) (first_told (step (2 * shards) (3 * shards + k) 0 0 none) me)
  reads_first id me k within old s r deep at _ =
      let v : View R E = me.0 in
      let n : ℕ = get_or s.words (3 * shards + k) 0 in
      let w : View R E = record v { first = take k v.first ++ n ∷ []; second = [] } in
      let small : adds (take k v.first ++ n ∷ []) < 4611686018427387904 =
      let a = first_low shards s.words _ _ w r.wide (waves_first shards s.words s.views _ k v within old r.wide r.counts (r.counts.waves id v at)) in let b = bounded _ _ _ r.legal_now in omega arith in (
        w,
        keeps,
        tt,
        wave_load s r id (3 * shards + k) v w at refl refl refl refl (λ _. (refl, refl)) (omega arith) refl refl refl (omega arith) (waves_first shards s.words s.views _ k v within old r.wide r.counts),
        λ k' shards' e f. let q : k ≡ k' = omega arith in let M0 : Me S (View R E) = (w, me.1) in subst (λ (z : ℕ). (M0 ≡ (record v { first = take z v.first ++ n ∷ []; second = [] }, me.1)) × (adds (take z v.first ++ n ∷ []) < 4611686018427387904)) q (refl, small),
      )

  pub reads_second : (id : ℕ) (me : Me S (View R E)) → length me.0.second < shards → Allows Rule (2 * shards) id me (2 * shards + length me.0.second) (λ n. n) (second_told (step (2 * shards) (2 * shards + length me.0.second) 0 0 none) me)
  reads_second id me within s r deep at _ =
      let v : View R E = me.0 in
      let n : ℕ = get_or s.words (2 * shards + length v.second) 0 in
      let w : View R E = record v { second = v.second ++ n ∷ [] } in
      let small : adds (v.second ++ n ∷ []) < 4611686018427387904 =
      let a = second_low shards s.words _ _ w (waves_second shards s.words _ _ v within r.wide (r.counts.waves id v at)) in let b = bounded _ _ _ r.legal_now in let c = r.counts.balanced in omega arith in (
        w,
        keeps,
        tt,
        wave_load s r id (2 * shards + length v.second) v w at refl refl refl refl (λ _. (refl, refl)) (omega arith) refl refl refl (omega arith) (waves_second shards s.words _ _ v within r.wide),
        (refl, small),
      )

  -- a full wave with equal sums may declare
  pub declares : (id : ℕ) (me : Me S (View R E)) → length me.0.first ≡ shards → length me.0.second ≡ shards → adds me.0.first ≡ adds me.0.second → Allows Rule (2 * shards) id me (4 * shards) (λ n. either (eqb n 0) 1 n) (declare_told (step (2 * shards) (4 * shards) 0 1 none) me)
  declares id me full_one full_two equal s r deep at _ =
      let v : View R E = me.0 in
      let k : ℕ = 4 * shards in
      let n : ℕ = get_or s.words k 0 in
      let a = r.counts.waves id v at in
      let none_later : shards - length v.second ≡ 0 = omega arith in
      let reached : reach shards s.words v ≡ adds v.second = rw none_later (omega arith) in
      let zeros = (a.two full_one).1 (equal ∙ sym reached) in
      let some_shard = r.some_shard in
      dite (ℕ_discrete n 0)
      (λ hit. let w : View R E = record v { seen = 1 } in (
        w,
        keeps,
        tt,
        subst (λ b. Rule (stepped s k (either b 1 n) id me.1 w keeps)) (sym (eq-eqb n 0 hit))
            (number_step s r id k 1 v w at refl refl refl refl (λ _. (refl, refl)) refl (omega arith) (rw (span_set_out s.words (3 * shards) shards k 1 (inr (omega arith)), uncounted_same s.views id v w at refl) refl)
            (span_set_out s.words (3 * shards) shards k 1 (inr (omega arith)) ∙ (r.handled ∙ handles_same s.views id v w at refl))
            (λ q. let here = get_or-set_same s.words k 1 0 (let wide = r.wide in omega arith) in absurd (omega arith))
            (counts_declared shards s.words s.views _ id 1 v w at refl refl refl refl r.wide r.some_shard hit (omega arith) (λ _. zeros) r.counts)),
        (r.counts.verdict, (λ q. sym (a.saw q)), (λ _. refl), λ miss. absurd (miss hit)),
      ))
      (λ miss. let w : View R E = record v { seen = n } in (
        w,
        keeps,
        tt,
        subst (λ b. Rule (stepped s k (either b 1 n) id me.1 w keeps)) (sym (ne_eqb n 0 miss))
            (wave_load s r id k v w at refl refl refl refl (λ _. (refl, refl)) (omega arith) refl refl refl (omega arith) (λ b. record { one = b.one; long = b.long; two = b.two; low = b.low; saw = λ _. refl })),
        (r.counts.verdict, (λ q. sym (a.saw q)), (λ hit. absurd (miss hit)), λ _. refl),
      ))

  -- a try to stop
  pub tries_stop : (id : ℕ) (me : Me S (View R E)) → me.0.live ≡ true → Allows Rule (2 * shards) id me (4 * shards) (λ n. either (eqb n 0) 2 n) (stop_told (step (2 * shards) (4 * shards) 0 2 none) me)
  tries_stop id me live s r deep at _ =
      let v : View R E = me.0 in
      let k : ℕ = 4 * shards in
      let n : ℕ = get_or s.words k 0 in
      let a = r.counts.waves id v at in
      let some_shard = r.some_shard in
      dite (ℕ_discrete n 0)
      (λ hit. let w : View R E = record v { stops = v.stops + 1; seen = 2 } in (
        w,
        keeps,
        tt,
        subst (λ b. Rule (stepped s k (either b 2 n) id me.1 w keeps)) (sym (eq-eqb n 0 hit))
            (number_step s r id k 2 v w at refl refl refl refl (λ d. absurd (true_false (sym live ∙ d))) refl (omega arith) (rw (span_set_out s.words (3 * shards) shards k 2 (inr (omega arith)), uncounted_same s.views id v w at refl) refl)
            (span_set_out s.words (3 * shards) shards k 2 (inr (omega arith)) ∙ (r.handled ∙ handles_same s.views id v w at refl))
            (λ q. let z = stops_set s.views id v w at in omega arith)
            (counts_declared shards s.words s.views _ id 2 v w at refl refl refl refl r.wide r.some_shard hit (omega arith) (λ q. absurd (omega arith)) r.counts)),
        (r.counts.verdict, (λ q. sym (a.saw q)), (λ _. refl), λ miss. absurd (miss hit)),
      ))
      (λ miss. let w : View R E = record v { stops = v.stops + 1; seen = n } in (
        w,
        keeps,
        tt,
        subst (λ b. Rule (stepped s k (either b 2 n) id me.1 w keeps)) (sym (ne_eqb n 0 miss))
            (wave_load s r id k v w at refl refl refl refl (λ d. absurd (true_false (sym live ∙ d))) (omega arith) refl refl refl (omega arith) (λ b. record { one = b.one; long = b.long; two = b.two; low = b.low; saw = λ _. refl })),
        (r.counts.verdict, (λ q. sym (a.saw q)), (λ hit. absurd (miss hit)), λ _. refl),
      ))

  -- a look at the verdict
  pub looks : (id : ℕ) (me : Me S (View R E)) → Allows Rule (2 * shards) id me (4 * shards) (λ n. n) (verdict_told (step (2 * shards) (4 * shards) 0 0 none) me)
  looks id me s r deep at _ =
      let v : View R E = me.0 in
      let k : ℕ = 4 * shards in
      let n : ℕ = get_or s.words k 0 in
      let a = r.counts.waves id v at in
      let w : View R E = record v { seen = n } in (
        w,
        keeps,
        tt,
        wave_load s r id k v w at refl refl refl refl (λ _. (refl, refl)) (omega arith) refl refl refl (omega arith) (λ b. record { one = b.one; long = b.long; two = b.two; low = b.low; saw = λ _. refl }),
        (r.counts.verdict, (λ q. sym (a.saw q)), refl),
      )

  pub tries_stop_at : (sh slots id : ℕ) (me : Me S (View R E)) → sh ≡ shards → slots ≡ 2 * sh → me.0.live ≡ true → Allows Rule slots id me (4 * sh) (λ n. either (eqb n 0) 2 n) (stop_told (step slots (4 * sh) 0 2 none) me)
  tries_stop_at sh slots id me same e live = rw (e, same) (tries_stop id me live)

  pub looks_at : (sh slots id : ℕ) (me : Me S (View R E)) → sh ≡ shards → slots ≡ 2 * sh → Allows Rule slots id me (4 * sh) (λ n. n) (verdict_told (step slots (4 * sh) 0 0 none) me)
  looks_at sh slots id me same e = rw (e, same) (looks id me)

  pub adds_handled_at : (sh slots id : ℕ) (me : Me S (View R E)) (q handled : ℕ) → sh ≡ shards → slots ≡ 2 * sh → q < sh → me.0.live ≡ true → handled ≤ me.0.uncounted → Allows Rule slots id me (3 * sh + q) (λ n. (n + handled) % 2 ^ 64) (handled_told (step slots (3 * sh + q) handled 0 none) me)
  adds_handled_at sh slots id me q handled same e within live enough = rw (e, same) (adds_handled id me q handled (subst (λ z. q < z) same within) live enough)

  pub reads_first_at : (sh slots id : ℕ) (me : Me S (View R E)) (k : ℕ) → sh ≡ shards → slots ≡ 2 * sh → k < sh → k ≤ length me.0.first → Allows Rule slots id me (3 * sh + k) (λ n. n) (first_told (step slots (3 * sh + k) 0 0 none) me)
  reads_first_at sh slots id me k same e within old = rw (e, same) (reads_first id me k (subst (λ z. k < z) same within) old)

  pub reads_second_at : (sh slots id : ℕ) (me : Me S (View R E)) (k : ℕ) → sh ≡ shards → slots ≡ 2 * sh → k < sh → k ≡ length me.0.second → Allows Rule slots id me (2 * sh + k) (λ n. n) (second_told (step slots (2 * sh + k) 0 0 none) me)
  reads_second_at sh slots id me k same e within last = rw (e, same, last) (reads_second id me (subst (λ z. z < shards) last (subst (λ z. k < z) same within)))

  pub declares_at : (sh slots id : ℕ) (me : Me S (View R E)) → sh ≡ shards → slots ≡ 2 * sh → length me.0.first ≡ sh → length me.0.second ≡ sh → adds me.0.first ≡ adds me.0.second → Allows Rule slots id me (4 * sh) (λ n. either (eqb n 0) 1 n) (declare_told (step slots (4 * sh) 0 1 none) me)
  declares_at sh slots id me same e full_one full_two equal = rw (e, same) (declares id me (full_one ∙ same) (full_two ∙ same) equal)

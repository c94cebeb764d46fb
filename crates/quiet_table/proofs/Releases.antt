-- A release of a turn keeps the rule.
use Rattle.std.proofs.Common.{◌≡◌, ◌≢◌, ℕ, zero, suc, ◌*◌, ◌<◌, List, [], ◌∷◌, ◌++◌, map, length, set, get_or, sym, refl, ap, ◌∙◌, subst, ⊎_elim, inl, inr, arith, Option, Some, None, length-set, get_or-set_other, get_or-set_same}
use Rattle.std.specs.Prelude.{IsPermutation, ltb}
use mathlib.Core.Logic.{dite}
use mathlib.Core.Option.{none, some, some-injective, some-ne-none}
use native.Mathlib.Decide.{ℕ_discrete}
use lib.ListN.{get_elem?, length-map}
use lib.Seq.{map-set}
use Rattle.atomic_table.specs.Table.{State, Me, step, keeps, takes, gives, stepped, Allows}
use Rattle.atomic_table.proofs.Lists.{at_set, set_here, set_else, set_again, at_map}
use Rattle.quiet_table.specs.declared.view.Hand.{Hand}
use Rattle.quiet_table.specs.declared.view.View.{View}
use Rattle.quiet_table.specs.declared.item.Item.{Item}
use Rattle.quiet_table.specs.Contents.{Contents, rest_of, parcels_of, pool, is_cell}
use Rattle.quiet_table.specs.Views.{hand_of, holding, NotHeld, FirstIs}
use Rattle.quiet_table.specs.Hands.{MayGive, Goes}
use Rattle.quiet_table.specs.Told.{released}
use Rattle.quiet_table.specs.BoardRule.{IsOut, Fits, AtHome, BoardRule}
use Rattle.std.proofs.lemmas.List.Sorted.{length_permutation}
use Rattle.quiet_table.proofs.SeatSums.{uncounted_same, stops_at_least, handles_same}
use Rattle.quiet_table.proofs.Counting.{counts_turn}
use Rattle.quiet_table.proofs.Pools.{pool_one, pool_two, span_set}
use Rattle.quiet_table.proofs.Claims.{numbered_stays, out_stays}

module _ {R E : Type 0} where
  -- the hands after a release: the same slots, but for the first one's
  pub record TurnPick (settled : List (Contents R E)) (hs hs' : List (Hand R E)) : Type 0 where
    pub new : (a : ℕ) (h : Hand R E) → get_elem? hs' a ≡ some h → (g : Hand R E) × (get_elem? hs a ≡ some g) × (g.slot ≡ h.slot) × (get_elem? settled h.slot ≡ some (record { rest = h.rest; parcels = h.parcels }))
    pub old : (a : ℕ) (g : Hand R E) → get_elem? hs a ≡ some g → (h : Hand R E) × (get_elem? hs' a ≡ some h) × (h.slot ≡ g.slot)

module _ {C B R E O : Type 0} (contents : Item C B → Contents R E) (legal : List R → List E → ℕ → Type 0) (origin : List R → O) (any_order : (rests : List R) (es es' : List E) (total : ℕ) → IsPermutation es es' → legal rests es total → legal rests es' total) (shards : ℕ) (from : O) where
  abbrev S : Type 0
  S = Option (Item C B)

  abbrev Rule : State S (View R E) → Type 0
  Rule = BoardRule contents legal origin shards from

  release_with : (s : State S (View R E)) (r : Rule s) (id : ℕ) (v : View R E) (h0 : Hand R E) (hs hs' : List (Hand R E)) (i : Item C B) (settled' : List (Contents R E)) → get_elem? s.views id ≡ some v → v.hands ≡ h0 ∷ hs → is_cell i ≡ ltb (2 * h0.slot) (2 * shards)
      → TurnPick settled' hs hs' → length settled' ≡ length r.settled → get_elem? settled' h0.slot ≡ some (contents i)
      → ((j : ℕ) → j ≢ h0.slot → NotHeld j hs → get_elem? settled' j ≡ get_elem? r.settled j)
      → map rest_of settled' ≡ map rest_of r.settled → IsPermutation (pool (map parcels_of r.settled)) (pool (map parcels_of settled'))
      → Rule record { words = set s.words h0.slot 0; homes = set s.homes h0.slot (some (Some i)); views = set s.views id (holding hs' (hand_of h0.slot (contents i)) v) }
  release_with s r id v h0 hs hs' i settled' at front kind leaves long here else_same rests pools =
      let w : View R E = holding hs' (hand_of h0.slot (contents i)) v in
      let k : ℕ = h0.slot in
      let first : get_elem? v.hands 0 ≡ some h0 = ap (λ z. get_elem? z 0) front in
      let later : (a : ℕ) (g : Hand R E) → get_elem? hs a ≡ some g → get_elem? v.hands (suc a) ≡ some g = λ a g e. ap (λ z. get_elem? z (suc a)) front ∙ e in
      let mine = r.each_hand id v 0 h0 at first in
      let wide = r.wide in let deep = r.deep in let full = r.full in let within = mine.within in
      let apart_from : (a : ℕ) (g : Hand R E) → get_elem? hs a ≡ some g → g.slot ≢ k = λ a g e q. let z = r.apart id v (suc a) 0 g h0 at (later a g e) first q in absurd (omega arith) in
      let other_seat : (j : ℕ) (x : View R E) (a : ℕ) (g : Hand R E) (b : ℕ) (h : Hand R E) → j ≢ id → get_elem? s.views j ≡ some x → get_elem? x.hands a ≡ some g → get_elem? v.hands b ≡ some h → g.slot ≢ h.slot =
      λ j x a g b h n e f f' q.
      let p = r.each_hand j x a g e f in let p' = r.each_hand id v b h at f' in
      let t1 = p.turn in let t2 = p'.turn in let t3 : get_or s.words g.slot 0 ≡ get_or s.words h.slot 0 = ap (λ y. get_or s.words y 0) q in
      let numbers : x.number ≡ v.number = omega arith in
      n (r.numbered.apart j id x v e at p.live p'.live numbers) in
      record {
        settled = settled';
        some_shard = r.some_shard;
        wide = length-set s.words k 0 ∙ r.wide;
        deep = length-set s.homes k (some (Some i)) ∙ r.deep;
        full = long ∙ r.full;
        numbered = numbered_stays s.views id v w at refl refl refl refl (λ _. (refl, refl)) r.numbered;
        each_slot = λ j l. dite (ℕ_discrete j k)
            (λ e. inl (i, ap (λ z. get_or (set s.words k 0) z 0) e ∙ get_or-set_same s.words k 0 0 (omega arith), ap (get_elem? (set s.homes k (some (Some i)))) e ∙ set_here s.homes k (some (Some i)) (omega arith), kind ∙ ap (λ z. ltb (2 * z) (2 * shards)) (sym e), ap (get_elem? settled') e ∙ here))
            (λ n. ⊎_elim
            (λ (t : AtHome contents shards s r.settled j).
            let free : NotHeld j hs = λ a g e q. let p = r.each_hand id v (suc a) g at (later a g e) in let u = p.turn in let z : get_or s.words g.slot 0 ≡ 0 = ap (λ y. get_or s.words y 0) q ∙ t.1 in absurd (omega arith) in
            inl (t.0, get_or-set_other s.words k j 0 0 n ∙ t.1, set_else s.homes k j (some (Some i)) n ∙ t.2, t.3, else_same j n free ∙ t.4))
            (λ (t : IsOut s.views j). inr (out_stays s.views id v w j at (λ a h x y. moved j n a h (ap (λ z. get_elem? z a) (sym front) ∙ x) y) t))
            (r.each_slot j l));
        each_hand = λ j x a h e f. ⊎_elim
            (λ (t : (j ≡ id) × (w ≡ x)).
            let o = leaves.new a h (ap (λ (z : View R E). get_elem? z.hands a) t.1 ∙ f) in
            let p = r.each_hand id v (suc a) o.0 at (later a o.0 o.1) in
            subst (λ (z : View R E). Fits shards (set s.words k 0) settled' z h) t.1
            record { live = p.live; within = subst (λ z. z < 2 * shards) o.2 p.within; turn = get_or-set_other s.words k h.slot 0 0 (λ q. apart_from a o.0 o.1 (o.2 ∙ q)) ∙ (ap (λ z. get_or s.words z 0) (sym o.2) ∙ p.turn); content = o.3 })
            (λ (t : (j ≢ id) × (get_elem? s.views j ≡ some x)).
            let p = r.each_hand j x a h t.1 f in
            let n : h.slot ≢ k = other_seat j x a h 0 h0 t.0 t.1 f first in
            let free : NotHeld h.slot hs = λ b g e' q. other_seat j x a h (suc b) g t.0 t.1 f (later b g e') (sym q) in
            record { live = p.live; within = p.within; turn = get_or-set_other s.words k h.slot 0 0 n ∙ p.turn; content = else_same h.slot n free ∙ p.content })
            (at_set s.views id j w x e);
        apart = λ j x a b g h e f1 f2 same. ⊎_elim
            (λ (t : (j ≡ id) × (w ≡ x)).
            let o1 = leaves.new a g (ap (λ (z : View R E). get_elem? z.hands a) t.1 ∙ f1) in
            let o2 = leaves.new b h (ap (λ (z : View R E). get_elem? z.hands b) t.1 ∙ f2) in
            let q = r.apart id v (suc a) (suc b) o1.0 o2.0 at (later a o1.0 o1.1) (later b o2.0 o2.1) (o1.2 ∙ (same ∙ sym o2.2)) in omega arith)
            (λ (t : (j ≢ id) × (get_elem? s.views j ≡ some x)). r.apart j x a b g h t.1 f1 f2 same)
            (at_set s.views id j w x e);
        legal_now = rw (span_set s.words (3 * shards) shards k 0 (omega arith), uncounted_same s.views id v w at refl, rests) (any_order _ _ _ _ pools r.legal_now);
        handled = span_set s.words (3 * shards) shards k 0 (omega arith) ∙ (r.handled ∙ handles_same s.views id v w at refl);
        counts = rw (length_permutation _ _ pools) (counts_turn shards s.words s.views _ k 0 id v w at (record { count = refl; one = refl; two = refl; saw = refl }) within r.counts);
        stopped = λ q. stops_at_least s.views id v w at (omega arith) (r.stopped (sym (get_or-set_other s.words k (4 * shards) 0 0 (λ e. omega arith)) ∙ q));
        same_origin = ap origin rests ∙ r.same_origin;
      }
    where
      moved : (j : ℕ) → j ≢ h0.slot → (a : ℕ) (h : Hand R E) → get_elem? (h0 ∷ hs) a ≡ some h → h.slot ≡ j → (b : ℕ) × (g : Hand R E) × (get_elem? hs' b ≡ some g) × (g.slot ≡ j)
      moved j n zero h e q = absurd (n (sym q ∙ ap (λ (z : Hand R E). z.slot) (sym (some-injective _ _ e))))
      moved j n (suc a) h e q = let o = leaves.old a h e in (a, o.0, o.1, o.2 ∙ q)

  abbrev item_or : Item C B → List (ℕ × S) → Item C B
  item_or d [] = d
  item_or d ((k, None) ∷ xs) = d
  item_or d ((k, Some i) ∷ xs) = i

  abbrev After : State S (View R E) → ℕ → View R E → ℕ → Item C B → List (Hand R E) → State S (View R E)
  After s id v k i hs' = record { words = set s.words k 0; homes = set s.homes k (some (Some i)); views = set s.views id (holding hs' (hand_of k (contents i)) v) }

  -- the other hands stay
  release_alone : (s : State S (View R E)) (r : Rule s) (id : ℕ) (v : View R E) (h0 : Hand R E) (hs : List (Hand R E)) (i : Item C B) → get_elem? s.views id ≡ some v → v.hands ≡ h0 ∷ hs → is_cell i ≡ ltb (2 * h0.slot) (2 * shards)
      → (contents i).rest ≡ h0.rest → IsPermutation h0.parcels (contents i).parcels → Rule (After s id v h0.slot i hs)
  release_alone s r id v h0 hs i at front kind rest_same perm =
      let k : ℕ = h0.slot in
      let c : Contents R E = contents i in
      let first : get_elem? v.hands 0 ≡ some h0 = ap (λ z. get_elem? z 0) front in
      let mine = r.each_hand id v 0 h0 at first in
      let within = mine.within in let full = r.full in
      let settled' : List (Contents R E) = set r.settled k c in
      release_with s r id v h0 hs hs i settled' at front kind
      record {
        new = λ a h e. let p = r.each_hand id v (suc a) h at (ap (λ z. get_elem? z (suc a)) front ∙ e) in
            (h, e, refl, set_else r.settled k h.slot c (λ q. let z = r.apart id v (suc a) 0 h h0 at (ap (λ z. get_elem? z (suc a)) front ∙ e) first q in absurd (omega arith)) ∙ p.content);
        old = λ a g e. (g, e, refl);
      }
      (length-set r.settled k c) (set_here r.settled k c (omega arith)) (λ j n _. set_else r.settled k j c n)
      (map-set rest_of r.settled k c ∙ set_again (map rest_of r.settled) k c.rest (at_map rest_of r.settled k (record { rest = h0.rest; parcels = h0.parcels }) mine.content ∙ ap (λ (z : R). some z) (sym rest_same)))
      (rw (map-set parcels_of r.settled k c) (pool_one (map parcels_of r.settled) k h0.parcels c.parcels (at_map parcels_of r.settled k (record { rest = h0.rest; parcels = h0.parcels }) mine.content) (rw (length-map r.settled (parcels_of {R = R} {E = E})) (omega arith)) perm))

  -- the one other hand takes what is left
  release_beside : (s : State S (View R E)) (r : Rule s) (id : ℕ) (v : View R E) (h0 g0 : Hand R E) (left : List E) (i : Item C B) → get_elem? s.views id ≡ some v → v.hands ≡ h0 ∷ g0 ∷ [] → is_cell i ≡ ltb (2 * h0.slot) (2 * shards)
      → (contents i).rest ≡ h0.rest → IsPermutation (h0.parcels ++ g0.parcels) ((contents i).parcels ++ left) → Rule (After s id v h0.slot i (record g0 { parcels = left } ∷ []))
  release_beside s r id v h0 g0 left i at front kind rest_same perm =
      let k : ℕ = h0.slot in
      let k2 : ℕ = g0.slot in
      let c : Contents R E = contents i in
      let d : Contents R E = record { rest = g0.rest; parcels = left } in
      let first : get_elem? v.hands 0 ≡ some h0 = ap (λ z. get_elem? z 0) front in
      let second : get_elem? v.hands 1 ≡ some g0 = ap (λ z. get_elem? z 1) front in
      let mine = r.each_hand id v 0 h0 at first in
      let beside = r.each_hand id v 1 g0 at second in
      let within = mine.within in let within2 = beside.within in let full = r.full in
      let ne : k ≢ k2 = λ q. let z = r.apart id v 0 1 h0 g0 at first second q in absurd (omega arith) in
      let ne' : k2 ≢ k = λ q. ne (sym q) in
      let one : List (Contents R E) = set r.settled k c in
      let settled' : List (Contents R E) = set one k2 d in
      let at_k = at_map rest_of r.settled k (record { rest = h0.rest; parcels = h0.parcels }) mine.content in
      let one_rests : map rest_of one ≡ map rest_of r.settled = map-set rest_of r.settled k c ∙ set_again (map rest_of r.settled) k c.rest (at_k ∙ ap (λ (z : R). some z) (sym rest_same)) in
      let lk : k < length (map (parcels_of {R = R} {E = E}) r.settled) = rw (length-map r.settled (parcels_of {R = R} {E = E})) (omega arith) in
      let lk2 : k2 < length (map (parcels_of {R = R} {E = E}) r.settled) = rw (length-map r.settled (parcels_of {R = R} {E = E})) (omega arith) in
      release_with s r id v h0 (g0 ∷ []) (record g0 { parcels = left } ∷ []) i settled' at front kind
      record { new = λ a h e. seen a h e (set_here one k2 d (rw (length-set r.settled k c) (omega arith))); old = old }
      (length-set one k2 d ∙ length-set r.settled k c)
      (set_else one k2 k d ne ∙ set_here r.settled k c (omega arith))
      (λ j n free. set_else one k2 j d (λ q. free 0 g0 refl (sym q)) ∙ set_else r.settled k j c n)
      (map-set rest_of one k2 d ∙ (ap (λ (l : List R). set l k2 g0.rest) one_rests ∙ set_again (map rest_of r.settled) k2 g0.rest (at_map rest_of r.settled k2 (record { rest = g0.rest; parcels = g0.parcels }) beside.content)))
      (rw (map-set parcels_of one k2 d, map-set parcels_of r.settled k c) (pool_two (map parcels_of r.settled) k k2 h0.parcels g0.parcels c.parcels left ne lk lk2
      (at_map parcels_of r.settled k (record { rest = h0.rest; parcels = h0.parcels }) mine.content) (at_map parcels_of r.settled k2 (record { rest = g0.rest; parcels = g0.parcels }) beside.content) perm))
    where
      seen : (a : ℕ) (h : Hand R E) → get_elem? (record g0 { parcels = left } ∷ []) a ≡ some h → get_elem? (set (set r.settled h0.slot (contents i)) g0.slot (record { rest = g0.rest; parcels = left })) g0.slot ≡ some (record { rest = g0.rest; parcels = left })
          → (g : Hand R E) × (get_elem? (g0 ∷ []) a ≡ some g) × (g.slot ≡ h.slot) × (get_elem? (set (set r.settled h0.slot (contents i)) g0.slot (record { rest = g0.rest; parcels = left })) h.slot ≡ some (record { rest = h.rest; parcels = h.parcels }))
      seen zero h e here = let is : record g0 { parcels = left } ≡ h = some-injective _ _ e in
          subst (λ (z : Hand R E). (g : Hand R E) × (get_elem? (g0 ∷ []) 0 ≡ some g) × (g.slot ≡ z.slot) × (get_elem? (set (set r.settled h0.slot (contents i)) g0.slot (record { rest = g0.rest; parcels = left })) z.slot ≡ some (record { rest = z.rest; parcels = z.parcels }))) is (g0, refl, refl, here)
      seen (suc zero) h e here = absurd (some-ne-none h (sym e))
      seen (suc (suc a)) h e here = absurd (some-ne-none h (sym e))

      old : (a : ℕ) (g : Hand R E) → get_elem? (g0 ∷ []) a ≡ some g → (h : Hand R E) × (get_elem? (record g0 { parcels = left } ∷ []) a ≡ some h) × (h.slot ≡ g.slot)
      old zero g e = (record g0 { parcels = left }, refl, ap (λ (z : Hand R E). z.slot) (some-injective g0 g e))
      old (suc zero) g e = absurd (some-ne-none g (sym e))
      old (suc (suc a)) g e = absurd (some-ne-none g (sym e))

  release_goes : (s : State S (View R E)) (r : Rule s) (id : ℕ) (v : View R E) (k : ℕ) (i : Item C B) (hands : List (Hand R E)) → get_elem? s.views id ≡ some v → v.hands ≡ hands → FirstIs k hands → is_cell i ≡ ltb (2 * k) (2 * shards) → MayGive hands (contents i)
      → (hs' : List (Hand R E)) × Goes hands (contents i) hs' × Rule (After s id v k i hs')
  release_goes s r id v k i [] at front is kind may = absurd may
  release_goes s r id v k i (h ∷ []) at front is kind may = ([], refl, subst (λ z. Rule (After s id v z i [])) is (release_alone s r id v h [] i at front (kind ∙ ap (λ z. ltb (2 * z) (2 * shards)) (sym is)) may.0 may.1))
  release_goes s r id v k i (h ∷ g ∷ []) at front is kind may =
      let hs' : List (Hand R E) = record g { parcels = may.1.0 } ∷ [] in
      (hs', (may.1.0, may.1.1, refl), subst (λ z. Rule (After s id v z i hs')) is (release_beside s r id v h g may.1.0 i at front (kind ∙ ap (λ z. ltb (2 * z) (2 * shards)) (sym is)) may.0 may.1.1))
  release_goes s r id v k i (h ∷ g ∷ f ∷ hs) at front is kind may = (g ∷ f ∷ hs, refl, subst (λ z. Rule (After s id v z i (g ∷ f ∷ hs))) is (release_alone s r id v h (g ∷ f ∷ hs) i at front (kind ∙ ap (λ z. ltb (2 * z) (2 * shards)) (sym is)) may.0 may.1))

  -- a seat may give the slot that it took last
  pub releases : (id : ℕ) (me : Me S (View R E)) (k : ℕ) (i : Item C B) (others : List (ℕ × S)) → me.1 ≡ (k, Some i) ∷ others → FirstIs k me.0.hands → is_cell i ≡ ltb (2 * k) (2 * shards) → MayGive me.0.hands (contents i)
      → Allows Rule (2 * shards) id me k (λ _. 0) (λ _. released contents (step (2 * shards) k 0 0 none) me 0)
  releases id me k i others carried is kind may s r deep at _ =
      let g = release_goes s r id me.0 k i me.0.hands at refl is kind may in
      let w : View R E = holding g.0 (hand_of k (contents i)) me.0 in (
        w,
        gives,
        tt,
        subst (λ (cs : List (ℕ × S)). Rule (stepped s k 0 id cs w gives)) (sym carried) g.2,
        λ i' others' e. (
          ap Rattle.atomic_table.specs.Table.rest e,
          (g.0, subst (λ (z : Item C B). Goes me.0.hands (contents z) g.0) (ap (item_or i) (sym carried ∙ e)) g.1, ap (λ (z : Item C B). holding g.0 (hand_of k (contents z)) me.0) (ap (item_or i) (sym carried ∙ e))),
        ),
      )

  pub releases_at : (slots id : ℕ) (me : Me S (View R E)) (k : ℕ) (i : Item C B) (others : List (ℕ × S)) → slots ≡ 2 * shards → me.1 ≡ (k, Some i) ∷ others → FirstIs k me.0.hands → is_cell i ≡ ltb (2 * k) slots → MayGive me.0.hands (contents i)
      → Allows Rule slots id me k (λ _. 0) (λ _. released contents (step slots k 0 0 none) me 0)
  releases_at slots id me k i others e carried is kind may = rw e (releases id me k i others carried is (kind ∙ ap (ltb (2 * k)) e) may)

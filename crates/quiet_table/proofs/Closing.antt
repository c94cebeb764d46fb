-- Where the last seat holds nothing, the table is shut.
use Rattle.std.proofs.Common.{◌≡◌, ◌≢◌, ℕ, zero, suc, ◌*◌, ◌<◌, true, false, List, [], ◌∷◌, length, sym, refl, ap, ◌∙◌, ⊎_elim, arith, Option, Some, None}
use Rattle.std.proofs.lemmas.Bool.{cases_Bool}
use mathlib.Core.Logic.{dite}
use native.Mathlib.Decide.{ℕ_discrete}
use mathlib.Core.Option.{none, some, some-injective, some-ne-none}
use mathlib.Core.Option as maybe
use lib.ListN.{get_elem?}
use Rattle.atomic_table.specs.Table.{State, Final, Seen}
use Rattle.quiet_table.specs.declared.view.Hand.{Hand}
use Rattle.quiet_table.specs.declared.view.View.{View}
use Rattle.quiet_table.specs.declared.item.Item.{Item}
use Rattle.quiet_table.specs.Contents.{Contents, opening_contents}
use Rattle.quiet_table.specs.BoardRule.{stops, handles, uncounted, IsOut, AtHome, BoardRule}
use Rattle.quiet_table.specs.Shut.{Shut}
use Rattle.quiet_table.proofs.SeatSums.{stops_one, handles_one}

none_some : {A : Type 0} (a : A) (x : maybe.Option A) → x ≡ none → x ≡ some a → ⊥
none_some a x e f = some-ne-none a (sym f ∙ e)

module _ {C B R E : Type 0} (contents : Item C B → Contents R E) where
  -- slots that have the settled contents
  same_contents : (slots : List (Option (Item C B))) (settled : List (Contents R E)) → length slots ≡ length settled → ((k : ℕ) → k < length slots → (i : Item C B) × (get_elem? slots k ≡ some (Some i)) × (get_elem? settled k ≡ some (contents i))) → opening_contents contents slots ≡ settled
  same_contents [] [] e each = refl
  same_contents [] (c ∷ cs) e each = absurd (omega arith)
  same_contents (x ∷ xs) [] e each = absurd (omega arith)
  same_contents (None ∷ xs) (c ∷ cs) e each = let r = each 0 (omega arith) in let q : None ≡ Some r.0 = some-injective _ _ r.1 in absurd cc
  same_contents (Some i ∷ xs) (c ∷ cs) e each =
      let r = each 0 (omega arith) in
      let is : i ≡ r.0 = let q : Some i ≡ Some r.0 = some-injective _ _ r.1 in cc in
      let head : contents i ≡ c = ap contents is ∙ sym (some-injective _ _ r.2) in
      ap (λ z. z ∷ opening_contents contents xs) head ∙ ap (λ l. c ∷ l) (same_contents xs cs (omega arith) (λ k l. each (suc k) (omega arith)))

  module _ {O : Type 0} (legal : List R → List E → ℕ → Type 0) (origin : List R → O) (shards : ℕ) (from : O) where
    abbrev S : Type 0
    S = Option (Item C B)

    abbrev Rule : State S (View R E) → Type 0
    Rule = BoardRule contents legal origin shards from

    no_hand_in : (hands : List (Hand R E)) (a : ℕ) (h : Hand R E) → hands ≡ [] → get_elem? hands a ≡ some h → ⊥
    no_hand_in [] zero h e f = none_some h _ refl f
    no_hand_in [] (suc a) h e f = none_some h _ refl f
    no_hand_in (x ∷ xs) a h e f = absurd cc

    -- where the one live seat holds nothing, each slot is at home
    pub closes : (words : List ℕ) (slots : List S) (id : ℕ) (v : View R E) → v.live ≡ true → v.number ≡ 0 → v.hands ≡ [] → v.splits ≡ v.joins → Final (Seen Rule id v) words slots → Shut contents legal origin shards from words slots v.seen v.stops v.handled
    closes words slots id v live zeroth bare joined f =
        let s : State S (View R E) = f.0 in
        let r : Rule s = f.1.0 in
        let at : get_elem? s.views id ≡ some v = f.1.1 in
        let same_words : s.words ≡ words = f.2 in
        let n = r.numbered in
        let kept = (n.among id v at live).1 zeroth in
        let all_gone : n.gone ≡ n.most = omega (arith, kept.0, kept.1, joined) in
        let alone : (j : ℕ) (x : View R E) → get_elem? s.views j ≡ some x → x.live ≡ true → j ≡ id = λ j x e l.
        let m = n.among j x e l in dite (ℕ_discrete x.number 0) (λ z. n.apart j id x v e at l live (z ∙ sym zeroth)) (λ z. let a = (m.2 z).1 in let b = m.0 in absurd (omega arith)) in
        let home : (k : ℕ) → k < 2 * shards → AtHome contents shards s r.settled k = λ k l. ⊎_elim (λ (t : AtHome contents shards s r.settled k). t)
        (λ (t : IsOut s.views k). let h = r.each_hand t.0 t.1 t.2 t.3 t.4 t.5 in
        let is : t.0 ≡ id = alone t.0 t.1 t.4 h.live in
        let same : v ≡ t.1 = some-injective v t.1 (sym at ∙ (ap (get_elem? s.views) (sym is) ∙ t.4)) in
        absurd (no_hand_in t.1.hands t.2 t.3 (ap (λ (z : View R E). z.hands) (sym same) ∙ bare) t.5)) (r.each_slot k l) in
        let deep = r.deep in let full = r.full in let long = f.3 in
        let long' : length slots ≡ 2 * shards = sym f.3 ∙ r.deep in
        let contents_are : opening_contents contents slots ≡ r.settled = same_contents slots r.settled (long' ∙ sym r.full) (λ k l. let h = home k (omega arith) in (h.0, f.4 k (Some h.0) h.2, h.4)) in
        let spent : (j : ℕ) (x : View R E) → get_elem? s.views j ≡ some x → j ≢ id → (x.stops ≡ 0) × (x.handled ≡ 0) = λ j x e ne. ⊎_elim (λ (l : x.live ≡ true). absurd (ne (alone j x e l))) (λ (l : x.live ≡ false). n.spent j x e l) (cases_Bool x.live) in
        let total : stops s.views ≡ v.stops = stops_one s.views id v at (λ j x e ne. (spent j x e ne).0) in
        let counted : handles s.views ≡ v.handled = handles_one s.views id v at (λ j x e ne. (spent j x e ne).1) in
        let wv = r.counts.waves id v at in
        record {
          wide = ap (λ l. length l) (sym same_words) ∙ r.wide;
          deep = long';
          each = λ k l. let h = home k l in (h.0, f.4 k (Some h.0) h.2, h.3);
          more = uncounted s.views;
          legal_now = rw (contents_are, sym same_words) r.legal_now;
          same_origin = rw contents_are r.same_origin;
          verdict = rw (sym same_words) r.counts.verdict;
          quiet = rw (contents_are, sym same_words) r.counts.quiet;
          handled = rw (sym same_words) (r.handled ∙ counted);
          stops_counted = rw (sym same_words) (λ q. let z = r.stopped q in omega arith);
          saw = rw (sym same_words) wv.saw;
        }

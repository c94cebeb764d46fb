-- What a seat holds is part of legal contents.
use Rattle.std.proofs.Common.{◌≡◌, ◌≢◌, ℕ, zero, suc, ◌*◌, ◌<◌, List, [], ◌∷◌, ◌++◌, map, length, set, sym, refl, ap, ◌∙◌, subst, arith, append_assoc, length-set, Option, Some}
use Rattle.std.specs.Prelude.{IsPermutation, slice_get}
use Rattle.std.proofs.lemmas.List.Sorted.{IsPermutation-refl, IsPermutation-trans, IsPermutation-append_right}
use mathlib.Core.Option.{some, some-injective, some-ne-none}
use lib.ListN.{get_elem?, length-map}
use Rattle.atomic_table.specs.Table.{State}
use Rattle.atomic_table.proofs.Lists.{set_again, set_else, at_map}
use Rattle.quiet_table.specs.declared.view.Hand.{Hand}
use Rattle.quiet_table.specs.declared.view.View.{View}
use Rattle.quiet_table.specs.declared.item.Item.{Item}
use Rattle.quiet_table.specs.Contents.{Contents, rest_of, parcels_of, pool}
use Rattle.quiet_table.specs.Views.{hand_pool}
use Rattle.quiet_table.specs.Hands.{InLegal}
use Rattle.quiet_table.specs.BoardRule.{BoardRule}
use Rattle.quiet_table.proofs.Pools.{pool_front}

get_there : {A : Type 0} (l : List A) (i : ℕ) (a : A) → get_elem? l i ≡ some a → slice_get l i ≡ Some a
get_there [] i a e = absurd (some-ne-none a (sym e))
get_there (x ∷ xs) zero a e = ap (λ z. Some z) (some-injective x a e)
get_there (x ∷ xs) (suc i) a e = get_there xs i a e

module _ {R E : Type 0} where
  -- what the hands hold comes first
  hands_front : (ess : List (List E)) (hands : List (Hand R E)) → ((a : ℕ) (h : Hand R E) → get_elem? hands a ≡ some h → (h.slot < length ess) × (get_elem? ess h.slot ≡ some h.parcels)) → ((a b : ℕ) (g h : Hand R E) → get_elem? hands a ≡ some g → get_elem? hands b ≡ some h → g.slot ≡ h.slot → a ≡ b)
      → (others : List E) × IsPermutation (pool ess) (hand_pool hands ++ others)
  hands_front ess [] fits apart = (pool ess, IsPermutation-refl (pool ess))
  hands_front ess (h ∷ hs) fits apart =
      let mine = fits 0 h refl in
      let front : IsPermutation (pool ess) (h.parcels ++ pool (set ess h.slot [])) = subst (λ l. IsPermutation (pool l) (h.parcels ++ pool (set ess h.slot []))) (set_again ess h.slot h.parcels mine.1) (pool_front ess h.slot h.parcels mine.0) in
      let later = hands_front (set ess h.slot []) hs
      (λ a g e. let f = fits (suc a) g e in let ne : g.slot ≢ h.slot = λ q. let z = apart (suc a) 0 g h e refl q in absurd (omega arith) in (rw (length-set ess h.slot []) f.0, set_else ess h.slot g.slot [] ne ∙ f.1))
      (λ a b g f e1 e2 q. let z = apart (suc a) (suc b) g f e1 e2 q in omega arith) in
      (later.0, rw (append_assoc h.parcels (hand_pool hs) later.0) (IsPermutation-trans _ _ _ front (IsPermutation-append_right h.parcels _ _ later.1)))

module _ {C B R E O : Type 0} (contents : Item C B → Contents R E) (legal : List R → List E → ℕ → Type 0) (origin : List R → O) (any_order : (rests : List R) (es es' : List E) (total : ℕ) → IsPermutation es es' → legal rests es total → legal rests es' total) (shards : ℕ) (from : O) where
  -- what a seat holds is part of legal contents
  pub held_legal : (s : State (Option (Item C B)) (View R E)) (r : BoardRule contents legal origin shards from s) (id : ℕ) (v : View R E) → get_elem? s.views id ≡ some v → InLegal legal origin (2 * shards) from v.hands
  held_legal s r id v at =
      let full = r.full in
      let f = hands_front (map parcels_of r.settled) v.hands
      (λ a h e. let p = r.each_hand id v a h at e in let w = p.within in (rw (length-map r.settled (parcels_of {R = R} {E = E})) (omega arith), at_map parcels_of r.settled h.slot (record { rest = h.rest; parcels = h.parcels }) p.content))
      (λ a b g h e1 e2 q. r.apart id v a b g h at e1 e2 q) in
      record {
        rests = map rest_of r.settled;
        others = f.0;
        total = _;
        count = length-map r.settled (rest_of {R = R} {E = E}) ∙ r.full;
        same_origin = r.same_origin;
        legal_then = any_order _ _ _ _ f.1 r.legal_now;
        there = λ a h e. let p = r.each_hand id v a h at e in get_there (map rest_of r.settled) h.slot h.rest (at_map rest_of r.settled h.slot (record { rest = h.rest; parcels = h.parcels }) p.content);
      }

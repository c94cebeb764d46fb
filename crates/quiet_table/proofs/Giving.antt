-- Which slots hold cells, and what a seat goes on holding.
use Rattle.std.proofs.Common.{◌≡◌, ℕ, ◌+◌, ◌*◌, ◌<◌, true, false, List, [], ◌∷◌, ◌++◌, sym, subst, arith, ltb, append-nil}
use Rattle.std.specs.Prelude.{IsPermutation}
use Rattle.std.proofs.lemmas.Bool.{lt-ltb, le-ltb}
use Rattle.std.proofs.lemmas.List.Sorted.{IsPermutation-sym, IsPermutation-trans, IsPermutation-append_left}
use Rattle.quiet_table.specs.declared.view.Hand.{Hand}
use Rattle.quiet_table.specs.Contents.{Contents}
use Rattle.quiet_table.specs.Views.{hand_pool}
use Rattle.quiet_table.specs.Hands.{MayGive, Goes}
use Rattle.quiet_table.proofs.Cancelling.{cancel_both, cancel_left}

pub cell_below : (s n slots : ℕ) → s < n → slots ≡ 2 * n → ltb (2 * s) slots ≡ true
cell_below s n slots h e = lt-ltb (2 * s) slots (omega arith)

pub box_above : (s n slots : ℕ) → slots ≡ 2 * n → ltb (2 * (n + s)) slots ≡ false
box_above s n slots e = le-ltb (2 * (n + s)) slots (omega arith)

module _ {R E : Type 0} where
  -- what the seat goes on holding has just the other envelopes
  pub stays : (hands : List (Hand R E)) (c : Contents R E) (hs' : List (Hand R E)) → MayGive hands c → Goes hands c hs' → (left : List E) → IsPermutation (hand_pool hands) (c.parcels ++ left) → IsPermutation left (hand_pool hs')
  stays [] c hs' may goes left p = absurd may
  stays (h ∷ []) c hs' may goes left p =
      let q : IsPermutation h.parcels (c.parcels ++ left) = subst (λ l. IsPermutation l (c.parcels ++ left)) (append-nil h.parcels) p in
      let none : IsPermutation h.parcels (c.parcels ++ []) = subst (IsPermutation h.parcels) (sym (append-nil c.parcels)) may.1 in
      subst (λ (l : List (Hand R E)). IsPermutation left (hand_pool l)) (sym goes) (cancel_both h.parcels c.parcels left [] q none)
  stays (h ∷ g ∷ []) c hs' may goes left p =
      let q : IsPermutation (h.parcels ++ g.parcels) (c.parcels ++ left) = subst (λ l. IsPermutation (h.parcels ++ l) (c.parcels ++ left)) (append-nil g.parcels) p in
      let both : IsPermutation left goes.0 = cancel_both (h.parcels ++ g.parcels) c.parcels left goes.0 q goes.1 in
      subst (λ (l : List (Hand R E)). IsPermutation left (hand_pool l)) (sym goes.2) (subst (IsPermutation left) (sym (append-nil goes.0)) both)
  stays (h ∷ g ∷ f ∷ hs) c hs' may goes left p =
      let own : IsPermutation (c.parcels ++ hand_pool (g ∷ f ∷ hs)) (h.parcels ++ hand_pool (g ∷ f ∷ hs)) = IsPermutation-append_left (hand_pool (g ∷ f ∷ hs)) _ _ (IsPermutation-sym _ _ may.1) in
      subst (λ (l : List (Hand R E)). IsPermutation left (hand_pool l)) (sym goes) (cancel_left c.parcels left (hand_pool (g ∷ f ∷ hs)) (IsPermutation-sym _ _ (IsPermutation-trans _ _ _ own p)))

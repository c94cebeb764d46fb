-- Moving envelopes between a cell and a box of the test load.
use Rattle.std.proofs.Common.{◌≡◌, ℕ, zero, suc, Some, List, [], ◌∷◌, ◌++◌, refl, sym, ap, ◌∙◌, subst, arith, append-nil}
use Rattle.std.specs.Prelude.{IsPermutation, slice_get, slice_set}
use Rattle.std.proofs.lemmas.List.Sorted.{length_permutation, IsPermutation-refl, IsPermutation-sym, IsPermutation-trans, IsPermutation-append_right, IsPermutation-append_comm}
use Rattle.quiet_table.specs.declared.view.Hand.{Hand}
use Rattle.quiet_table.specs.Views.{hand_of, hand_pool}
use Rattle.quiet_table.specs.Hands.{MayGive, Goes, TurnsFrom}
use Rattle.quiet_table.specs.Lemmas.Purses.{PurseTurn}

pub same_permutation : {X : Type 0} (xs ys : List X) → xs ≡ ys → IsPermutation xs ys
same_permutation xs ys e = subst (λ l. IsPermutation xs l) e (IsPermutation-refl xs)

-- the two sides were swapped before and after
pub swapped : {X : Type 0} (tray purse tray' purse' : List X) → purse ++ tray ≡ purse' ++ tray' → IsPermutation (tray ++ purse) (tray' ++ purse')
swapped tray purse tray' purse' e = IsPermutation-trans _ _ _ (IsPermutation-append_comm tray purse) (IsPermutation-trans _ _ _ (same_permutation _ _ e) (IsPermutation-append_comm purse' tray'))

abbrev pub two_hands : ℕ → ℕ → List ℕ → ℕ → List ℕ → List (Hand ℕ ℕ)
two_hands k shard tray credits es = hand_of k (record { rest = 0; parcels = tray }) ∷ hand_of shard (record { rest = credits; parcels = es }) ∷ []

pub may_trade : (hands old : List (Hand ℕ ℕ)) (k shard credits : ℕ) (tray es purse tray' purse' : List ℕ) → hands ≡ hand_of k (record { rest = 0; parcels = tray }) ∷ old → old ≡ hand_of shard (record { rest = credits; parcels = es }) ∷ [] → IsPermutation es purse → IsPermutation (tray ++ purse) (tray' ++ purse')
    → MayGive hands (record { rest = 0; parcels = tray' })
may_trade hands old k shard credits tray es purse tray' purse' e f same moved =
    subst (λ l. MayGive l (record { rest = 0; parcels = tray' })) (sym (e ∙ ap (λ l. hand_of k (record { rest = 0; parcels = tray }) ∷ l) f)) (refl, (purse', IsPermutation-trans _ _ _ (IsPermutation-append_right tray es purse same) moved))

pub trade_held : (hands old hands' : List (Hand ℕ ℕ)) (k shard credits : ℕ) (tray es purse tray' purse' : List ℕ) → hands ≡ hand_of k (record { rest = 0; parcels = tray }) ∷ old → old ≡ hand_of shard (record { rest = credits; parcels = es }) ∷ [] → IsPermutation es purse → IsPermutation (tray ++ purse) (tray' ++ purse')
    → Goes hands (record { rest = 0; parcels = tray' }) hands' → ((left : List ℕ) → IsPermutation (hand_pool hands) (tray' ++ left) → IsPermutation left (hand_pool hands'))
    → (x : List ℕ) × (hands' ≡ hand_of shard (record { rest = credits; parcels = x }) ∷ []) × IsPermutation x purse'
trade_held hands old hands' k shard credits tray es purse tray' purse' e f same moved goes stays =
    let two : hands ≡ two_hands k shard tray credits es = e ∙ ap (λ l. hand_of k (record { rest = 0; parcels = tray }) ∷ l) f in
    let g = subst (λ l. Goes l (record { rest = 0; parcels = tray' }) hands') two goes in
    let all : IsPermutation (hand_pool hands) (tray' ++ purse') = subst (λ l. IsPermutation (hand_pool l) (tray' ++ purse')) (sym two) (subst (λ l. IsPermutation (tray ++ l) (tray' ++ purse')) (sym (append-nil es)) (IsPermutation-trans _ _ _ (IsPermutation-append_right tray es purse same) moved)) in
    let kept : IsPermutation purse' (g.0 ++ []) = subst (λ l. IsPermutation purse' (hand_pool l)) g.2 (stays purse' all) in
    (g.0, g.2, IsPermutation-sym _ _ (subst (λ l. IsPermutation purse' l) (append-nil g.0) kept))

pub serves : (hands : List (Hand ℕ ℕ)) (shard credits : ℕ) (es items : List ℕ) (sent handled credits' : ℕ) (items' : List ℕ) → hands ≡ hand_of shard (record { rest = credits; parcels = es }) ∷ [] → IsPermutation es items → PurseTurn credits items sent handled credits' items' → TurnsFrom PurseTurn hands sent handled credits' items'
serves hands shard credits es items sent handled credits' items' e same t =
    let l = length_permutation es items same in
    subst (λ h. TurnsFrom PurseTurn h sent handled credits' items') (sym e) ((let a = t.0 in omega arith), t.1, (let a = t.2 in omega arith), t.3)

-- what holds of each place of a list still holds where the first element changes
pub each_set : {X : Type 0} (P : ℕ → X → Type 0) (xs : List X) (f : X) → ((i : ℕ) (x : X) → slice_get xs i ≡ Some x → P i x) → P 0 f → (i : ℕ) (x : X) → slice_get (slice_set xs 0 f) i ≡ Some x → P i x
each_set P [] f old first i x e = old i x e
each_set P (y ∷ ys) f old first zero x e = subst (P 0) (let q : f ≡ x = cc in q) first
each_set P (y ∷ ys) f old first (suc i) x e = old (suc i) x e

pub set_first : {X : Type 0} (xs : List X) (f x : X) → slice_get (slice_set xs 0 f) 0 ≡ Some x → f ≡ x
set_first [] f x e = absurd cc
set_first (y ∷ ys) f x e = cc

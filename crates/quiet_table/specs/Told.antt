-- What each kind of step tells the seat that makes it: how the seat's view changes, and of a number that it read.
use Rattle.std.specs.Prelude.{◌≡◌, ◌≢◌, ℕ, ◌+◌, ◌-◌, ◌*◌, ◌^◌, ◌<◌, ◌≤◌, ltb, List, [], ◌∷◌, ◌++◌, take, Option, Some}
use Rattle.atomic_table.specs.Table.{Me, Step}
use Rattle.quiet_table.specs.declared.view.Hand.{Hand}
use Rattle.quiet_table.specs.declared.view.View.{View}
use Rattle.quiet_table.specs.declared.item.Item.{Item}
use Rattle.quiet_table.specs.Contents.{Contents, is_cell}
use Rattle.quiet_table.specs.Words.{adds}
use Rattle.quiet_table.specs.Views.{found, hand_of, holding, turned}
use Rattle.quiet_table.specs.Hands.{InLegal, Goes}

module _ {R E : Type 0} where
  -- what the sent step tells
  abbrev pub sent_told : {S : Type 0} → List R → List E → ℕ → Step S → Me S (View R E) → ℕ → Me S (View R E) → Type 0
  sent_told rs es handled st m n m' = (r : R) → rs ≡ r ∷ [] → m' ≡ (turned handled r es m.0, m.1)

  -- what the handled step tells: it was counted
  abbrev pub handled_told : {S : Type 0} → Step S → Me S (View R E) → ℕ → Me S (View R E) → Type 0
  handled_told st m n m' = m' ≡ (record m.0 { uncounted = m.0.uncounted - st.first; handled = m.0.handled + st.first }, m.1)

  -- what a read of the first wave tells: the word at this place
  abbrev pub first_told : {S : Type 0} → Step S → Me S (View R E) → ℕ → Me S (View R E) → Type 0
  first_told st m n m' = (k shards : ℕ) → st.slots ≡ 2 * shards → st.word ≡ 3 * shards + k → (m' ≡ (record m.0 { first = take k m.0.first ++ n ∷ []; second = [] }, m.1)) × (adds (take k m.0.first ++ n ∷ []) < 2 ^ 62)

  abbrev pub second_told : {S : Type 0} → Step S → Me S (View R E) → ℕ → Me S (View R E) → Type 0
  second_told st m n m' = (m' ≡ (record m.0 { second = m.0.second ++ n ∷ [] }, m.1)) × (adds (m.0.second ++ n ∷ []) < 2 ^ 62)

  -- what a try to declare tells
  abbrev pub declare_told : {S : Type 0} → Step S → Me S (View R E) → ℕ → Me S (View R E) → Type 0
  declare_told st m n m' = (n ≤ 2) × (m.0.seen ≢ 0 → n ≡ m.0.seen) × (n ≡ 0 → m' ≡ (record m.0 { seen = 1 }, m.1)) × (n ≢ 0 → m' ≡ (record m.0 { seen = n }, m.1))

  -- what a try to stop tells
  abbrev pub stop_told : {S : Type 0} → Step S → Me S (View R E) → ℕ → Me S (View R E) → Type 0
  stop_told st m n m' = (n ≤ 2) × (m.0.seen ≢ 0 → n ≡ m.0.seen) × (n ≡ 0 → m' ≡ (record m.0 { stops = m.0.stops + 1; seen = 2 }, m.1)) × (n ≢ 0 → m' ≡ (record m.0 { stops = m.0.stops + 1; seen = n }, m.1))

  -- what a look at the verdict tells
  abbrev pub verdict_told : {S : Type 0} → Step S → Me S (View R E) → ℕ → Me S (View R E) → Type 0
  verdict_told st m n m' = (n ≤ 2) × (m.0.seen ≢ 0 → n ≡ m.0.seen) × (m' ≡ (record m.0 { seen = n }, m.1))

module _ {C B R E : Type 0} (contents : Item C B → Contents R E) where
  -- what a claim tells: the slot was taken, or another seat's number was found
  abbrev pub claimed : {O : Type 0} → (List R → List E → ℕ → Type 0) → (List R → O) → List O → Step (Option (Item C B)) → Me (Option (Item C B)) (View R E) → ℕ → Me (Option (Item C B)) (View R E) → Type 0
  claimed {O} legal origin froms st m n m' =
      ((o : O) → froms ≡ o ∷ [] → InLegal legal origin st.slots o m'.0.hands) ×
      (n ≡ 0 → (i : Item C B) × (is_cell i ≡ ltb (2 * st.word) st.slots) × (m' ≡ (record m.0 { hands = hand_of st.word (contents i) ∷ m.0.hands }, (st.word, Some i) ∷ m.1)))
      × (n ≢ 0 → (n ≢ m.0.number + 1) × (m' ≡ (found st.word n m.0, m.1)))

  -- what a release tells
  abbrev pub released : Step (Option (Item C B)) → Me (Option (Item C B)) (View R E) → ℕ → Me (Option (Item C B)) (View R E) → Type 0
  released st m n m' = (i : Item C B) (others : List (ℕ × Option (Item C B))) → m.1 ≡ (st.word, Some i) ∷ others
      → (m'.1 ≡ others) × ((hs' : List (Hand R E)) × Goes m.0.hands (contents i) hs' × (m'.0 ≡ holding hs' (hand_of st.word (contents i)) m.0))

-- The rule that every step on a board keeps, whatever the schedule: turns and seats, settled contents, the balance of
-- sent and handled, the two waves, and the verdict.
use Rattle.std.specs.Prelude.{◌≡◌, ◌≢◌, ◌⊎◌, ℕ, ◌+◌, ◌-◌, ◌*◌, ◌<◌, ◌≤◌, true, false, ltb, List, [], ◌∷◌, map, length, slice_index, Option, Some}
use mathlib.Core.Option.{some}
use lib.ListN.{get_elem?}
use Rattle.atomic_table.specs.Table.{State}
use Rattle.quiet_table.specs.declared.view.Hand.{Hand}
use Rattle.quiet_table.specs.declared.view.View.{View}
use Rattle.quiet_table.specs.declared.item.Item.{Item}
use Rattle.quiet_table.specs.Contents.{Contents, is_cell, rest_of, parcels_of, pool}
use Rattle.quiet_table.specs.Words.{adds, span}

module _ {R E : Type 0} where
  -- Live seats have different numbers. Seat 0 has counted the splits and the joins; the numbers up to the joins are
  -- gone, and no other seat was split. A seat that another one took in has stopped nothing and handled nothing.
  pub record Numbered (views : List (View R E)) : Type 0 where
    pub most : ℕ
    pub gone : ℕ
    pub few : gone ≤ most
    pub among : (j : ℕ) (v : View R E) → get_elem? views j ≡ some v → v.live ≡ true → (v.number ≤ most) × (v.number ≡ 0 → (v.splits ≡ most) × (v.joins ≡ gone)) × (v.number ≢ 0 → (v.splits ≡ 0) × (gone < v.number))
    pub spent : (j : ℕ) (v : View R E) → get_elem? views j ≡ some v → v.live ≡ false → (v.stops ≡ 0) × (v.handled ≡ 0)
    pub apart : (i j : ℕ) (v w : View R E) → get_elem? views i ≡ some v → get_elem? views j ≡ some w → v.live ≡ true → w.live ≡ true → v.number ≡ w.number → i ≡ j

  -- a seat holds the slot k
  abbrev pub IsOut : List (View R E) → ℕ → Type 0
  IsOut views k = (j : ℕ) × (v : View R E) × (i : ℕ) × (h : Hand R E) × (get_elem? views j ≡ some v) × (get_elem? v.hands i ≡ some h) × (h.slot ≡ k)

  -- what a hand says of its slot: the seat is live, the turn word has its number plus 1, and the settled contents of
  -- the slot are those of the hand
  pub record Fits (shards : ℕ) (words : List ℕ) (settled : List (Contents R E)) (v : View R E) (h : Hand R E) : Type 0 where
    pub live : v.live ≡ true
    pub within : h.slot < 2 * shards
    pub turn : slice_index words h.slot ≡ v.number + 1
    pub content : get_elem? settled h.slot ≡ some (record { rest = h.rest; parcels = h.parcels })

  -- what the views say is uncounted
  abbrev pub uncounted : List (View R E) → ℕ
  uncounted [] = 0
  uncounted (v ∷ vs) = v.uncounted + uncounted vs

  -- how often the seats stopped
  abbrev pub stops : List (View R E) → ℕ
  stops [] = 0
  stops (v ∷ vs) = v.stops + stops vs

  -- what the seats counted as handled
  abbrev pub handles : List (View R E) → ℕ
  handles [] = 0
  handles (v ∷ vs) = v.handled + handles vs

  -- the sent numbers that were read, and the present ones of the words not yet read
  abbrev pub reach : ℕ → List ℕ → View R E → ℕ
  reach shards words v = adds v.second + span words (2 * shards + length v.second) (shards - length v.second)

  -- What one seat has read. In an open first wave each number is at most that handled word now. With a full first
  -- wave its sum is at most the reach of the second; where they are equal, nothing is in flight or uncounted. The
  -- second wave's numbers are at most the sent words now. A verdict once seen is the present one.
  pub record Waves (shards : ℕ) (words : List ℕ) (flight open_count : ℕ) (v : View R E) : Type 0 where
    pub one : (k n : ℕ) → get_elem? v.first k ≡ some n → n ≤ slice_index words (3 * shards + k)
    pub long : (length v.first ≤ shards) × (length v.second ≤ shards)
    pub two : length v.first ≡ shards → (adds v.first ≤ reach shards words v) × (adds v.first ≡ reach shards words v → (flight ≡ 0) × (open_count ≡ 0))
    pub low : adds v.second ≤ span words (2 * shards) (length v.second)
    pub saw : v.seen ≢ 0 → v.seen ≡ slice_index words (4 * shards)

  -- What holds of numbers alone. What was sent is what was handled, is in flight, or is uncounted. Where the verdict is
  -- Quiet, nothing is in flight or uncounted.
  pub record Counts (shards : ℕ) (words : List ℕ) (views : List (View R E)) (flight : ℕ) : Type 0 where
    pub balanced : span words (2 * shards) shards ≡ span words (3 * shards) shards + flight + uncounted views
    pub verdict : slice_index words (4 * shards) ≤ 2
    pub quiet : slice_index words (4 * shards) ≡ 1 → (flight ≡ 0) × (uncounted views ≡ 0)
    pub waves : (j : ℕ) (v : View R E) → get_elem? views j ≡ some v → Waves shards words flight (uncounted views) v

module _ {C B R E : Type 0} (contents : Item C B → Contents R E) where
  -- no seat holds the slot k: its turn word is 0, and its settled contents are those of its value
  abbrev pub AtHome : ℕ → State (Option (Item C B)) (View R E) → List (Contents R E) → ℕ → Type 0
  AtHome shards s settled k = (i : Item C B) × (slice_index s.words k ≡ 0) × (get_elem? s.homes k ≡ some (some (Some i))) × (is_cell i ≡ ltb (2 * k) (2 * shards)) × (get_elem? settled k ≡ some (contents i))

  -- The rule. A slot is at home or out with one live seat, whose hand has its settled contents; no seat holds a
  -- slot twice. The settled contents are legal with what was handled or is uncounted, and their origin is that of the
  -- first contents. The handled words have what the seats counted. The verdict is Stopped only where a seat stopped.
  pub record BoardRule {O : Type 0} (legal : List R → List E → ℕ → Type 0) (origin : List R → O) (shards : ℕ) (from : O) (s : State (Option (Item C B)) (View R E)) : Type 0 where
    pub settled : List (Contents R E)
    pub some_shard : 0 < shards
    pub wide : length s.words ≡ 4 * shards + 1
    pub deep : length s.homes ≡ 2 * shards
    pub full : length settled ≡ 2 * shards
    pub numbered : Numbered s.views
    pub each_slot : (k : ℕ) → k < 2 * shards → AtHome shards s settled k ⊎ IsOut s.views k
    pub each_hand : (j : ℕ) (v : View R E) (i : ℕ) (h : Hand R E) → get_elem? s.views j ≡ some v → get_elem? v.hands i ≡ some h → Fits shards s.words settled v h
    pub apart : (j : ℕ) (v : View R E) (a b : ℕ) (g h : Hand R E) → get_elem? s.views j ≡ some v → get_elem? v.hands a ≡ some g → get_elem? v.hands b ≡ some h → g.slot ≡ h.slot → a ≡ b
    pub legal_now : legal (map rest_of settled) (pool (map parcels_of settled)) (span s.words (3 * shards) shards + uncounted s.views)
    pub counts : Counts shards s.words s.views (length (pool (map parcels_of settled)))
    pub handled : span s.words (3 * shards) shards ≡ handles s.views
    pub stopped : slice_index s.words (4 * shards) ≡ 2 → 1 ≤ stops s.views
    pub same_origin : origin (map rest_of settled) ≡ from

-- What holds of the words and slots of a closed board, which all seats had left.
use Rattle.std.specs.Prelude.{◌≡◌, ◌≢◌, ℕ, ◌+◌, ◌*◌, ◌<◌, ◌≤◌, ltb, List, map, length, slice_index, Option, Some}
use mathlib.Core.Option.{some}
use lib.ListN.{get_elem?}
use Rattle.quiet_table.specs.declared.item.Item.{Item}
use Rattle.quiet_table.specs.Contents.{Contents, is_cell, rest_of, parcels_of, pool, opening_contents}
use Rattle.quiet_table.specs.Words.{span}

module _ {C B R E : Type 0} (contents : Item C B → Contents R E) where
  -- each slot has its value; the contents are legal with some number more than what was handled, and none where the
  -- verdict is Quiet; so many stops were counted, so much was counted as handled, and a verdict that was seen is the
  -- one in its word
  pub record Shut {O : Type 0} (legal : List R → List E → ℕ → Type 0) (origin : List R → O) (shards : ℕ) (from : O) (words : List ℕ) (slots : List (Option (Item C B))) (seen stopped counted : ℕ) : Type 0 where
    pub wide : length words ≡ 4 * shards + 1
    pub deep : length slots ≡ 2 * shards
    pub each : (k : ℕ) → k < 2 * shards → (i : Item C B) × (get_elem? slots k ≡ some (Some i)) × (is_cell i ≡ ltb (2 * k) (2 * shards))
    pub more : ℕ
    pub legal_now : legal (map rest_of (opening_contents contents slots)) (pool (map parcels_of (opening_contents contents slots))) (span words (3 * shards) shards + more)
    pub same_origin : origin (map rest_of (opening_contents contents slots)) ≡ from
    pub verdict : slice_index words (4 * shards) ≤ 2
    pub quiet : slice_index words (4 * shards) ≡ 1 → (length (pool (map parcels_of (opening_contents contents slots))) ≡ 0) × (more ≡ 0)
    pub stops_counted : slice_index words (4 * shards) ≡ 2 → 1 ≤ stopped
    pub handled : span words (3 * shards) shards ≡ counted
    pub saw : seen ≢ 0 → seen ≡ slice_index words (4 * shards)

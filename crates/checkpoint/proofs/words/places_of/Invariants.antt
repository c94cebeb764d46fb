-- The loop over the words.
use Rattle.std.proofs.Common.{ℕ, ◌≡◌, ◌*◌, ◌<◌, ◌≤◌, All, map, take}
use Rattle.block_index.specs.Places.{IsPlace, packed}
use Rattle.checkpoint.specs.Reading.{IsNoPlace}
use Rattle.checkpoint.specs.Spelling.{numbers_bytes}
use Rattle.checkpoint.proofs.words.places_of.Given as goal

abbrev pub invariant-loop-at : goal.invariant-loop-at
invariant-loop-at l = record {
  within : l.at ≤ l.count;
  words : take (8 * l.at) l.bytes ≡ numbers_bytes (map packed l.places.items);
  limits : All IsPlace l.places.items;
  none_before : (k : ℕ) → k < l.at → IsNoPlace l.bytes k → ⊥;
}

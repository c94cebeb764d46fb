-- Values found by hand.
use Rattle.std.specs.Prelude.{◌≡◌, [], ◌∷◌, length, map, refl, replicate, take}
use Rattle.std.specs.List.{flat_map}
use Rattle.params_check.specs.Examples.{drop_text}
use Rattle.params_check.specs.Parameters.{Parameters}
use Rattle.checkpoint.specs.Parts.{parts_of_version_1}
use Rattle.checkpoint.specs.SavedStates.{SavedState}
use Rattle.checkpoint.specs.Spelling.{bytes_of, numbers_bytes, part_bytes}
use Rattle.checkpoint.specs.declared.part.Part.TheVariants.{Magic, Version, TextLength}

-- One root block of 4 * 4 * 4 cells with one field, of which the fourth cell holds 1, before the first cycle.
abbrev drop_state : Parameters → SavedState
drop_state p = record {
  params = record p { text = drop_text };
  cycle = 0;
  places = record { level = 0; x = 0; y = 0; z = 0 } ∷ [];
  amounts = ((0 ∷ 0 ∷ 0 ∷ 1 ∷ replicate 60 0) ∷ []) ∷ [];
  totals = 1 ∷ [];
  gone = 0 ∷ [];
}

-- its file begins with CELLOAMR, 1 in two bytes, and 322 in four
drop_state_begins : (p : Parameters) → flat_map (part_bytes (drop_state p)) (Magic ∷ Version ∷ TextLength ∷ [])
    ≡ 67 ∷ 69 ∷ 76 ∷ 76 ∷ 79 ∷ 65 ∷ 77 ∷ 82 ∷ 0 ∷ 1 ∷ 0 ∷ 0 ∷ 1 ∷ 66 ∷ []
unfolding drop_text
drop_state_begins p = refl

-- it has 880 bytes, and where its parts end
drop_state_length : (p : Parameters) → length (bytes_of (drop_state p)) ≡ 880
unfolding drop_text
drop_state_length p = refl

drop_state_parts : (p : Parameters) → map (λ k. length (flat_map (part_bytes (drop_state p)) (take k parts_of_version_1))) (1 ∷ 2 ∷ 3 ∷ 4 ∷ 5 ∷ 6 ∷ 7 ∷ 8 ∷ 9 ∷ 10 ∷ [])
    ≡ 8 ∷ 10 ∷ 14 ∷ 336 ∷ 340 ∷ 344 ∷ 352 ∷ 864 ∷ 872 ∷ 880 ∷ []
unfolding drop_text
drop_state_parts p = refl

-- the word of the place of level 1 at 1 along x, and an amount of 1
two_numbers : numbers_bytes (281474976710657 ∷ 1 ∷ []) ≡ 0 ∷ 1 ∷ 0 ∷ 0 ∷ 0 ∷ 0 ∷ 0 ∷ 1 ∷ 0 ∷ 0 ∷ 0 ∷ 0 ∷ 0 ∷ 0 ∷ 0 ∷ 1 ∷ []
two_numbers = refl

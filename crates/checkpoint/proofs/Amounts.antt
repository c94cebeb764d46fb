-- Numbers, fields and blocks, and those after them.
use Rattle.std.proofs.Common.{◌≡◌, ℕ, ◌+◌, ◌<◌, ◌≤◌, List, [], ◌∷◌, ◌++◌, length, map, drop, get_or, slice_index_or, sym, ap, ◌∙◌}
use Rattle.std.specs.Int.{bytes_high_first}
use Rattle.std.specs.List.{flat_map}
use Rattle.std.proofs.lemmas.List.{drop_more, drop_all}
use Rattle.std.proofs.lemmas.List.Concat.{flat_map-append}
use Rattle.block_index.specs.Places.{Cube, packed}
use Rattle.block_fields.specs.Blocks.{BlockState}
use Rattle.checkpoint.specs.SavedStates.{SavedState}
use Rattle.checkpoint.specs.Spelling.{numbers_bytes, all_amounts, part_bytes}
use Rattle.checkpoint.specs.declared.part.Part.{Part}

-- the bytes of some fields, and of some blocks
abbrev pub fields_bytes : List (List ℕ) → List ℕ
fields_bytes fields = numbers_bytes (flat_map (λ amounts. amounts) fields)

abbrev pub blocks_bytes : List BlockState → List ℕ
blocks_bytes blocks = numbers_bytes (all_amounts (map (λ b. b.amounts) blocks))

abbrev pub places_bytes : List Cube → List ℕ
places_bytes places = numbers_bytes (map packed places)

-- a field, and those after it
pub fields_bytes-next : (fields : List (List ℕ)) (i : ℕ) (q : List ℕ) → i < length fields → q ≡ slice_index_or fields i [] → fields_bytes (drop i fields) ≡ numbers_bytes q ++ fields_bytes (drop (i + 1) fields)
fields_bytes-next fields i q below is =
    ap fields_bytes (drop_more fields i [] below)
    ∙ flat_map-append (bytes_high_first 8) (get_or fields i []) (flat_map (λ amounts. amounts) (drop (i + 1) fields))
    ∙ ap (λ l. numbers_bytes l ++ fields_bytes (drop (i + 1) fields)) (sym is)

pub fields_bytes-end : (fields : List (List ℕ)) (i : ℕ) → length fields ≤ i → fields_bytes (drop i fields) ≡ []
fields_bytes-end fields i end = ap fields_bytes (drop_all i fields end)

-- a block, and those after it
pub blocks_bytes-next : (blocks : List BlockState) (i : ℕ) (b : BlockState) → i < length blocks → b ≡ get_or blocks i b → blocks_bytes (drop i blocks) ≡ fields_bytes b.amounts ++ blocks_bytes (drop (i + 1) blocks)
blocks_bytes-next blocks i b below is =
    ap blocks_bytes (drop_more blocks i b below)
    ∙ flat_map-append (bytes_high_first 8) (flat_map (λ (amounts : List ℕ). amounts) (get_or blocks i b).amounts) (all_amounts (map (λ c. c.amounts) (drop (i + 1) blocks)))
    ∙ ap (λ (c : BlockState). fields_bytes c.amounts ++ blocks_bytes (drop (i + 1) blocks)) (sym is)

pub blocks_bytes-end : (blocks : List BlockState) (i : ℕ) → length blocks ≤ i → blocks_bytes (drop i blocks) ≡ []
blocks_bytes-end blocks i end = ap blocks_bytes (drop_all i blocks end)

-- a place, and those after it
pub places_bytes-next : (places : List Cube) (i : ℕ) (c : Cube) (word : ℕ) → i < length places → c ≡ get_or places i c → word ≡ packed c → places_bytes (drop i places) ≡ numbers_bytes (word ∷ []) ++ places_bytes (drop (i + 1) places)
places_bytes-next places i c word below is is_word =
    ap places_bytes (drop_more places i c below)
    ∙ flat_map-append (bytes_high_first 8) (packed (get_or places i c) ∷ []) (map packed (drop (i + 1) places))
    ∙ ap (λ (w : ℕ). numbers_bytes (w ∷ []) ++ places_bytes (drop (i + 1) places)) (sym (is_word ∙ ap packed is))

pub places_bytes-end : (places : List Cube) (i : ℕ) → length places ≤ i → places_bytes (drop i places) ≡ []
places_bytes-end places i end = ap places_bytes (drop_all i places end)

-- a part, and those after it
pub parts_bytes-next : (s : SavedState) (parts : List Part) (i : ℕ) (p : Part) → i < length parts → p ≡ get_or parts i p → flat_map (part_bytes s) (drop i parts) ≡ part_bytes s p ++ flat_map (part_bytes s) (drop (i + 1) parts)
parts_bytes-next s parts i p below is =
    ap (flat_map (part_bytes s)) (drop_more parts i p below)
    ∙ ap (λ (q : Part). part_bytes s q ++ flat_map (part_bytes s) (drop (i + 1) parts)) (sym is)

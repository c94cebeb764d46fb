-- The file of a state's fields. All its numbers are binary, the highest byte first.
use Rattle.std.specs.Prelude.{ℕ, List, [], ◌∷◌, ◌++◌, length}
use Rattle.std.specs.Int.{bytes_high_first}
use Rattle.std.specs.List.{flat_map, zip}
use Rattle.block_index.specs.Places.{Cube, packed}
use Rattle.block_fields.specs.States.{State}

-- a leaf: its packed place, then field by field the amounts of its cells
abbrev pub leaf_numbers : Cube → List (List ℕ) → List ℕ
leaf_numbers c fields = packed c ∷ flat_map (λ amounts. amounts) fields

-- A state at a cycle: four numbers of 4 bytes, which are the cycle, how many fields and how many leaves there are, and
-- how many cells stand along a block's edge. Then leaf by leaf its numbers, of 8 bytes.
abbrev pub field_bytes : ℕ → State → List ℕ
field_bytes cycle s =
    flat_map (bytes_high_first 4) (cycle ∷ s.fields ∷ length s.leaves ∷ s.edge ∷ [])
    ++ flat_map (λ leaf. flat_map (bytes_high_first 8) (leaf_numbers leaf.0 leaf.1)) (zip s.leaves s.amounts)

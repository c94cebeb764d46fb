-- The bytes of small files of fields, worked out by hand.
use Rattle.std.specs.Prelude.{◌≡◌, ℕ, false, List, [], ◌∷◌, ◌++◌, length, refl, replicate}
use Rattle.block_index.specs.Places.{Cube, Grid}
use Rattle.block_fields.specs.States.{State}
use Rattle.block_fields.specs.Samples.{adapted}
use Rattle.mesh_output.specs.FieldFiles.{field_bytes}

closed : Grid
closed = record { trees_x = 1; trees_y = 1; trees_z = 1; wraps_x = false; wraps_y = false; wraps_z = false; finest = 1 }

root : Cube
root = record { level = 0; x = 0; y = 0; z = 0 }

-- one leaf with a field of 4 cells along an edge, of which the fourth holds 1
fourth_cell : State
fourth_cell = record { grid = closed; edge = 4; fields = 1; leaves = root ∷ []; amounts = ((0 ∷ 0 ∷ 0 ∷ 1 ∷ replicate 60 0) ∷ []) ∷ [] }

-- at cycle 258: the cycle, one field, one leaf, an edge of 4; the place, which is 0; three amounts of 0, 1, and 60 of 0
one_leaf : field_bytes 258 fourth_cell ≡
    (0 ∷ 0 ∷ 1 ∷ 2 ∷ 0 ∷ 0 ∷ 0 ∷ 1 ∷ 0 ∷ 0 ∷ 0 ∷ 1 ∷ 0 ∷ 0 ∷ 0 ∷ 4 ∷ replicate 8 0) ++ (replicate 31 0 ++ (1 ∷ replicate 480 0))
unfolding closed root fourth_cell
one_leaf = refl

-- one leaf whose first cell holds 11
eleven : State
eleven = record { grid = closed; edge = 4; fields = 1; leaves = root ∷ []; amounts = ((11 ∷ replicate 63 0) ∷ []) ∷ [] }

-- the amounts of the first child when the leaf is split: 2 in its cells 0, 1 and 4, and 1 in 5, 16, 17, 20 and 21
first_child : List ℕ
first_child = (2 ∷ 2 ∷ 0 ∷ 0 ∷ 2 ∷ 1 ∷ replicate 10 0) ++ ((1 ∷ 1 ∷ 0 ∷ 0 ∷ 1 ∷ 1 ∷ replicate 10 0) ++ replicate 32 0)

split_amounts : (adapted eleven (1 ∷ [])).amounts ≡ (first_child ∷ []) ∷ replicate 7 (replicate 64 0 ∷ [])
unfolding closed root eleven first_child
split_amounts = refl

-- the file of the eight leaves has 4,176 bytes
split_length : length (field_bytes 0 (adapted eleven (1 ∷ []))) ≡ 4176
unfolding closed root eleven
split_length = refl

-- The amounts of a block that is made of others: of its parent, or of its eight children.
use Rattle.std.specs.Prelude.{ℕ, List, [], map, slice_index, slice_index_or, sum_by}
use Rattle.std.specs.List.{range_with_len}
use Rattle.block_index.specs.Places.{Cube, parent_of, child_number}
use Rattle.leaf_set.specs.NextMesh.{children_of}
use Rattle.block_fields.specs.Cells.{block_of, cell_number, cells_of}
use Rattle.cello_num.specs.Parts.{part}

-- for the block p, from a field of its parent: each cell has its part of the coarser cell
abbrev pub parts_of : ℕ → Cube → List ℕ → List ℕ
parts_of n p q = map (λ c. part (slice_index q (cell_number n (parent_of c))) (child_number c)) (cells_of n p)

-- for the block p, from a field of its eight children in order: each cell has the sum of the eight finer cells
abbrev pub sums_of : ℕ → Cube → List (List ℕ) → List ℕ
sums_of n p qs =
    map (λ c. sum_by (λ e. slice_index (slice_index_or qs (child_number (block_of n e)) []) (cell_number n e)) (children_of c))
    (cells_of n p)

-- the same for all fields
abbrev pub split_amounts : ℕ → Cube → List (List ℕ) → List (List ℕ)
split_amounts n p fields = map (parts_of n p) fields

abbrev pub join_amounts : ℕ → ℕ → Cube → List (List (List ℕ)) → List (List ℕ)
join_amounts n fields p blocks = map (λ f. sums_of n p (map (λ b. slice_index_or b f []) blocks)) (range_with_len 0 fields)

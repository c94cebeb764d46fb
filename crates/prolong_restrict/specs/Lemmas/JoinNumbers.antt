-- A field of a parent by the numbers of its cells, row by row along x.
use Rattle.std.specs.Prelude.{◌≡◌, ℕ, ◌+◌, ◌*◌, ◌/◌, ◌%◌, ◌<◌, ◌≤◌, List, [], Some, length, map, slice_get, slice_index, slice_index_or, sum}
use Rattle.std.specs.List.{range_with_len}
use Rattle.block_fields.specs.Blocks.{BlockState, amounts_of}
use Rattle.prolong_restrict.specs.Families.{most_in_field}

-- which of the eight children the cell i of the parent lies in, and the number there of the first of its eight cells
abbrev pub octant : ℕ → ℕ → ℕ
octant n i = i % n / (n / 2) + 2 * (i / n % n / (n / 2)) + 4 * (i / n / n / (n / 2))

abbrev pub number_below : ℕ → ℕ → ℕ
number_below n i = (2 * (i / n / n % (n / 2)) * n + 2 * (i / n % n % (n / 2))) * n + 2 * (i % n % (n / 2))

-- the same two numbers for the first cell of row r
abbrev pub octant_of_row : ℕ → ℕ → ℕ
octant_of_row n r = 2 * (r % n / (n / 2)) + 4 * (r / n / (n / 2))

abbrev pub row_below : ℕ → ℕ → ℕ
row_below n r = (2 * (r / n % (n / 2)) * n + 2 * (r % n % (n / 2))) * n

-- the sum of eight cells of which the first has a number
abbrev pub eight_from : ℕ → List ℕ → ℕ → ℕ
eight_from n q at =
    slice_index q at + slice_index q (at + 1) + slice_index q (at + n) + slice_index q (at + n + 1)
    + (slice_index q (at + n * n) + slice_index q (at + n * n + 1) + slice_index q (at + n * n + n) + slice_index q (at + n * n + n + 1))

-- one field of eight blocks
abbrev pub fields_of : ℕ → List BlockState → List (List ℕ)
fields_of f blocks = map (λ b. amounts_of b f) blocks

abbrev pub joined_sum : ℕ → ℕ → List BlockState → ℕ → ℕ
joined_sum n f blocks i = eight_from n (slice_index_or (fields_of f blocks) (octant n i) []) (number_below n i)

abbrev pub join_list : ℕ → ℕ → List BlockState → List ℕ
join_list n f blocks = map (joined_sum n f blocks) (range_with_len 0 (n * n * n))

-- the blocks are eight, and this field of each adds up to few enough
pub record AreJoinable (blocks : List BlockState) (f n : ℕ) : Type 0 where
  pub eight : length blocks ≡ 8
  pub edge : (k : ℕ) (b : BlockState) → slice_get blocks k ≡ Some b → b.edge ≡ n
  pub field : (k : ℕ) (b : BlockState) → slice_get blocks k ≡ Some b → f < length b.amounts
  pub small : (k : ℕ) (b : BlockState) → slice_get blocks k ≡ Some b → sum (amounts_of b f) ≤ most_in_field

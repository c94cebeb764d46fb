-- A field of a child by the numbers of its cells, row by row along x.
use Rattle.std.specs.Prelude.{ℕ, ◌+◌, ◌*◌, ◌/◌, ◌%◌, List, map, slice_index}
use Rattle.std.specs.List.{range_with_len}
use Rattle.block_fields.specs.Blocks.{number_at}
use Rattle.cello_num.specs.Parts.{part}

-- the number in the parent of the cell that holds the cell i of child k, and which part of it that is
abbrev pub number_above : ℕ → ℕ → ℕ → ℕ
number_above n k i = number_at n ((k % 2 * n + i % n) / 2) ((k / 2 % 2 * n + i / n % n) / 2) ((k / 4 * n + i / n / n) / 2)

abbrev pub part_number : ℕ → ℕ → ℕ
part_number n i = i % n % 2 + 2 * (i / n % n % 2) + 4 * (i / n / n % 2)

abbrev pub split_part : ℕ → ℕ → List ℕ → ℕ → ℕ
split_part n k q i = part (slice_index q (number_above n k i)) (part_number n i)

abbrev pub split_list : ℕ → ℕ → List ℕ → List ℕ
split_list n k q = map (split_part n k q) (range_with_len 0 (n * n * n))

-- the same two numbers for the first cell of row r
abbrev pub row_above : ℕ → ℕ → ℕ → ℕ
row_above n k r = ((k / 4 * n + r / n) / 2 * n + (k / 2 % 2 * n + r % n) / 2) * n + k % 2 * (n / 2)

abbrev pub row_part : ℕ → ℕ → ℕ
row_part n r = 2 * (r % n % 2) + 4 * (r / n % 2)

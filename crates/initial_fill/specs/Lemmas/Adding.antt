-- Amounts that are added to some cells of a block, by the numbers of the cells.
use Rattle.std.specs.Prelude.{◌≡◌, ℕ, ◌+◌, ◌*◌, ◌/◌, ◌%◌, ◌^◌, ◌<◌, ◌≤◌, Bool, ◌&&◌, cond, List, length, slice_index}
use Rattle.block_index.specs.Places.{Cube}
use Rattle.params_check.specs.Amounts.{holds_cell, lies_between}
use Rattle.params_check.specs.declared.shape.Form.{Form}

-- a form holds the cell with a number in the block at a place
abbrev pub holds_number : Form → ℕ → Cube → ℕ → Bool
holds_number form n place j = holds_cell form (place.x * n + j % n) (place.y * n + j / n % n) (place.z * n + j / n / n)

-- the same, and the cell lies in one of the rows from a on and below b
abbrev pub holds_in_rows : Form → ℕ → Cube → ℕ → ℕ → ℕ → Bool
holds_in_rows form n place a b j = lies_between a b (j / n) && holds_number form n place j

-- a list with an amount more at each number that passes a test
pub record Adds (passes : ℕ → Bool) (amount : ℕ) (old new : List ℕ) : Type 0 where
  pub each : (j : ℕ) → j < length old → slice_index new j ≡ slice_index old j + cond (passes j) amount 0
  pub same_length : length new ≡ length old

-- an amount can be added in each row from a on
pub record HasRoom (n a amount : ℕ) (q : List ℕ) : Type 0 where
  pub each : (j : ℕ) → j < length q → a ≤ j / n → slice_index q j + amount < 2 ^ 64

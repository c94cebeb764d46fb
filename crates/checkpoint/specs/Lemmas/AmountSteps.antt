-- How far the amounts of a file are read.
use Rattle.std.specs.Prelude.{◌≡◌, ℕ, ◌+◌, ◌*◌, ◌^◌, ◌<◌, ◌≤◌, List, All, length, map, slice_index, sum, sum_by, take}
use Rattle.std.specs.List.{flat_map}
use Rattle.block_index.specs.Places.{Cube}
use Rattle.block_fields.specs.Blocks.{BlockState, amounts_of}
use Rattle.block_fields.specs.BlockStates.{IsBlockOf}
use Rattle.checkpoint.specs.Reading.{AreWords, kept_depth}
use Rattle.checkpoint.specs.Spelling.{all_amounts}

-- the first `j` numbers of a list were read, and this is their sum
pub record NumbersRead (bytes numbers : List ℕ) (j total : ℕ) : Type 0 where
  pub words : AreWords (take j numbers) (take (8 * j) bytes)
  pub sum_is : total ≡ sum (take j numbers)
  pub limit : total ≤ j * 2 ^ 64

-- the first `f` fields of a block were read, each of `size` bytes, and their sums added
pub record FieldsRead (size : ℕ) (bytes : List ℕ) (f : ℕ) (b : BlockState) (old sums : List ℕ) : Type 0 where
  pub words : AreWords (flat_map (λ amounts. amounts) (take f b.amounts)) (take (f * size) bytes)
  pub long : length sums ≡ length old
  pub added : (g : ℕ) → g < f → slice_index sums g ≡ slice_index old g + sum (amounts_of b g)
  pub kept : (g : ℕ) → f ≤ g → slice_index sums g ≡ slice_index old g
  pub limit : (g : ℕ) → g < f → sum (amounts_of b g) ≤ 2 ^ 76

-- the blocks of the first `i` places were read, each of `size` bytes, and the sums of their fields
pub record BlocksRead (size n fields : ℕ) (places : List Cube) (bytes : List ℕ) (i : ℕ) (blocks : List BlockState) (sums : List ℕ) : Type 0 where
  pub words : AreWords (all_amounts (map (λ b. b.amounts) blocks)) (take (i * size) bytes)
  pub places_are : map (λ b. b.place) blocks ≡ take i places
  pub each : All (IsBlockOf n fields kept_depth) blocks
  pub sums_are : (g : ℕ) → g < fields → slice_index sums g ≡ sum_by (λ b. sum (amounts_of b g)) blocks
  pub limit : (g : ℕ) → g < fields → slice_index sums g ≤ i * 2 ^ 76

-- How a block's lists lie in memory: the ghosts of a field are one list, direction after direction.
use Rattle.std.specs.Prelude.{◌≡◌, ℕ, ◌+◌, ◌*◌, ◌%◌, ◌≤◌, ◌==◌, cond, List, [], ◌∷◌, Some, length, map, take, drop, slice_get}
use Rattle.block_index.specs.Places.{Cube}
use Rattle.block_fields.specs.Blocks.{BlockState}
use Rattle.block_fields.specs.Shells.{ghost_count, ghost_sizes}

-- how many cells of an axis stand before those of a side
abbrev pub cells_before : ℕ → ℕ → ℕ → ℕ
cells_before n depth side = cond (side == 0) 0 (cond (side == 1) depth (depth + n))

-- a list cut into pieces of given sizes
abbrev pub cut : List ℕ → List ℕ → List (List ℕ)
cut [] q = []
cut (s ∷ sizes) q = take s q ∷ cut sizes (drop s q)

-- the block with a place, an edge, a depth, and for each field three lists
abbrev pub laid_out : Cube → ℕ → ℕ → List (List ℕ) → List (List ℕ) → List (List ℕ) → BlockState
laid_out place n depth amounts before shells = record {
  place = place;
  edge = n;
  depth = depth;
  amounts = amounts;
  before = before;
  ghosts = map (cut (ghost_sizes n depth)) shells;
}

-- each list of a field has a length
abbrev pub HaveLength : ℕ → List (List ℕ) → Type 0
HaveLength n lists = (f : ℕ) (q : List ℕ) → slice_get lists f ≡ Some q → length q ≡ n

pub record IsLaidOut (n depth : ℕ) (amounts before shells : List (List ℕ)) : Type 0 where
  pub even : n % 2 ≡ 0
  pub least : 4 ≤ n
  pub most : n ≤ 16
  pub shallowest : 1 ≤ depth
  pub deepest : depth ≤ 2
  pub few : length amounts ≤ 4
  pub one_before_each : length before ≡ length amounts
  pub one_shell_each : length shells ≡ length amounts
  pub all_cells : HaveLength (n * n * n) amounts
  pub all_before : HaveLength (n * n * n) before
  pub all_ghosts : HaveLength (ghost_count n depth) shells

-- The state of a simulation: a mesh with the amounts of its cells.
use Rattle.std.specs.Prelude.{◌≡◌, ℕ, ◌*◌, ◌≤◌, cond, List, [], ◌∷◌, Some, length, map, slice_get, slice_index, slice_index_or, sum, sum_by}
use Rattle.std.specs.List.{range_with_len}
use Rattle.block_index.specs.Places.{Cube, Grid, IsDomain}
use Rattle.leaf_set.specs.Meshes.{IsMesh, IsBalanced}
use Rattle.block_fields.specs.Cells.{block_of, cell_number, cells_of, is_same}

-- A state: a domain, how many cells stand along a block's edge, how many fields there are, the leaves in order, and
-- for each leaf, for each field, the amounts of its cells in order.
pub record State : Type 0 where
  pub grid : Grid
  pub edge : ℕ
  pub fields : ℕ
  pub leaves : List Cube
  pub amounts : List (List (List ℕ))

-- one field: for each leaf the amounts of its cells
abbrev pub field_of : State → ℕ → List (List ℕ)
field_of s f = map (λ block. slice_index_or block f []) s.amounts

-- the sum of all amounts of a field
abbrev pub total : State → ℕ → ℕ
total s f = sum_by sum (field_of s f)

-- the amount of a cell, from the leaves and their amounts; 0 where no leaf holds the cell
abbrev pub amount_in : ℕ → List Cube → List (List ℕ) → Cube → ℕ
amount_in n [] blocks c = 0
amount_in n (b ∷ bs) [] c = 0
amount_in n (b ∷ bs) (q ∷ qs) c = cond (is_same b (block_of n c)) (slice_index q (cell_number n c)) (amount_in n bs qs c)

-- the amount of a cell that a leaf holds; 0 elsewhere
abbrev pub held : State → ℕ → Cube → ℕ
held s f c = amount_in s.edge s.leaves (field_of s f) c

-- the state on given leaves whose cells hold what a function of field and cell gives
abbrev pub filled : Grid → ℕ → ℕ → List Cube → (ℕ → Cube → ℕ) → State
filled grid edge fields leaves given = record {
  grid = grid;
  edge = edge;
  fields = fields;
  leaves = leaves;
  amounts = map (λ b. map (λ f. map (given f) (cells_of edge b)) (range_with_len 0 fields)) leaves;
}

-- The limits of every state: a balanced mesh, at least two cells along an edge, and a list of n * n * n amounts per leaf and field.
pub record IsState (s : State) : Type 0 where
  pub domain : IsDomain s.grid
  pub mesh : IsMesh s.grid s.leaves
  pub balanced : IsBalanced s.grid s.leaves
  pub edge : 2 ≤ s.edge
  pub one_each : length s.amounts ≡ length s.leaves
  pub all_fields : (i : ℕ) (block : List (List ℕ)) → slice_get s.amounts i ≡ Some block → length block ≡ s.fields
  pub all_cells : (i f : ℕ) (block : List (List ℕ)) (amounts : List ℕ) → slice_get s.amounts i ≡ Some block →
      slice_get block f ≡ Some amounts → length amounts ≡ s.edge * s.edge * s.edge

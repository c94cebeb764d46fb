-- The state that a run begins with: the root blocks, with the amounts that the shapes give to their cells.
use Rattle.std.specs.Prelude.{ℕ, length, map}
use Rattle.std.specs.List.{range_with_len}
use Rattle.block_index.specs.Places.{Cube}
use Rattle.params_check.specs.Amounts.{root_amount}
use Rattle.params_check.specs.Parameters.{Parameters}
use Rattle.block_fields.specs.Blocks.{BlockState, zero_block}
use Rattle.block_fields.specs.Cells.{cells_of}
use Rattle.block_fields.specs.InitialStates.{initial}
use Rattle.block_fields.specs.States.{State}

-- how many cells deep the ghosts of root blocks are
abbrev pub root_depth : ℕ
root_depth = 1

-- the amount that the shapes give to a root cell
abbrev pub given_by : Parameters → ℕ → Cube → ℕ
given_by p f c = root_amount p.shapes f c.x c.y c.z

-- the state that a run begins with
abbrev pub initial_state : Parameters → State
initial_state p = initial p.grid p.block (length p.fields) (given_by p)

-- the block of a root: its amounts are those that the shapes give, and all else is 0
abbrev pub root_block : Parameters → Cube → BlockState
root_block p place = record (zero_block place p.block (length p.fields) root_depth) {
  amounts = map (λ f. map (given_by p f) (cells_of p.block place)) (range_with_len 0 (length p.fields));
}

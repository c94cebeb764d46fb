-- Summaries of small runs, worked out by hand.
use Rattle.std.specs.Prelude.{◌≡◌, true, [], ◌∷◌, codes, refl, replicate}
use Rattle.std.specs.Fmt.{digits}
use Rattle.amount_ledger.specs.Ledgers.{first_ledger, later_ledger}
use Rattle.block_index.specs.Places.{Cube, Grid}
use Rattle.mesh_output.specs.Lines.{end_line}
use Rattle.params_check.specs.Parameters.{Parameters}
use Rattle.run_core.specs.Courses.{RunState}
use Rattle.roomy_runs.specs.Summaries.{summary, demo_line, leaves_line, amounts_line}

one_tree : Grid
one_tree = record { trees_x = 1; trees_y = 1; trees_z = 1; wraps_x = true; wraps_y = true; wraps_z = true; finest = 0 }

root : Cube
root = record { level = 0; x = 0; y = 0; z = 0 }

-- one field, of which the root block of 4 * 4 * 4 cells has 4528 in its first cell, and nothing is gone
one_field : RunState
one_field = record {
  state = record { grid = one_tree; edge = 4; fields = 1; leaves = root ∷ []; amounts = ((4528 ∷ replicate 63 0) ∷ []) ∷ [] };
  ledger = first_ledger (4528 ∷ 0 ∷ 0 ∷ 0 ∷ []);
  told = [];
}

one_line : (p : Parameters) → summary 1 1 (record p { fields = codes "a" ∷ []; cycles = 8 }) one_field
    ≡ codes "demo 1 1\nleaves 1 cycles 8\nfield a total 4528 gone 0\nend\n"
unfolding one_tree root one_field digits demo_line leaves_line amounts_line end_line
one_line p = refl

-- Two fields: 5 and 1 of the first are there, and of the second 2. Of the second 3 and then 4 have left.
two_fields : RunState
two_fields = record {
  state = record {
    grid = one_tree;
    edge = 4;
    fields = 2;
    leaves = root ∷ [];
    amounts = ((5 ∷ 1 ∷ replicate 62 0) ∷ (0 ∷ 2 ∷ replicate 62 0) ∷ []) ∷ [];
  };
  ledger = later_ledger (later_ledger (first_ledger (6 ∷ 9 ∷ 0 ∷ 0 ∷ [])) (0 ∷ 3 ∷ 0 ∷ 0 ∷ [])) (0 ∷ 4 ∷ 0 ∷ 0 ∷ []);
  told = [];
}

two_lines : (p : Parameters) → summary 65535 4 (record p { fields = codes "a" ∷ codes "dust" ∷ []; cycles = 32 }) two_fields
    ≡ codes "demo 65535 4\nleaves 1 cycles 32\nfield a total 6 gone 0\nfield dust total 2 gone 7\nend\n"
unfolding one_tree root two_fields digits demo_line leaves_line amounts_line end_line
two_lines p = refl

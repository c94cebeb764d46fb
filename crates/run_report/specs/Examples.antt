-- What small runs write, worked out by hand.
use Rattle.std.specs.Prelude.{◌≡◌, ℕ, Bool, true, false, List, [], ◌∷◌, ◌++◌, None, Some, codes, length, map, refl, replicate}
use Rattle.std.specs.Fmt.{digits}
use Rattle.amount_ledger.specs.Ledgers.{LedgerState, first_ledger, later_ledger}
use Rattle.block_index.specs.Places.{Cube, Grid}
use Rattle.block_fields.specs.States.{State}
use Rattle.cello_io.specs.Files.{MadeFile}
use Rattle.mesh_output.specs.Lines.{header_line, phase_line, cycle_line, field_line, count_line, leaf_line, mesh_text, end_line}
use Rattle.params_check.specs.Examples.{drop_text}
use Rattle.params_check.specs.Parameters.{Parameters}
use Rattle.run_core.specs.Courses.{Told, phase_ended, cycle_ended, is_due}
use Rattle.run_report.specs.Actions.{run_actions, cycle_files, due_at}
use Rattle.run_report.specs.FileNames.{mesh_name, fields_name, state_name}
use Rattle.run_report.specs.Outputs.{pieces_bytes, files_of}

-- ---- names, and when files are due

names : mesh_name 7 ∷ fields_name 2096 ∷ state_name 350 ∷ [] ≡ codes "mesh-0007.txt" ∷ codes "field-2096.bin" ∷ codes "state-0350.cello" ∷ []
unfolding mesh_name fields_name state_name
names = refl

-- every 20 cycles: at 0, 20 and 40, and not at 10 or 21; at none where the number is 0
dues : map (is_due 20) (0 ∷ 20 ∷ 40 ∷ 10 ∷ 21 ∷ []) ++ map (is_due 0) (0 ∷ 20 ∷ [])
    ≡ true ∷ true ∷ true ∷ false ∷ false ∷ false ∷ false ∷ []
dues = refl

-- the names of the files of a cycle, where mesh and fields are written every 40 cycles and checkpoints every 20
names_at : Parameters → ℕ → State → LedgerState → List (List ℕ)
names_at p cycle s ledger =
    let often = record p { mesh_every = 40; fields_every = 40; checkpoint_every = 20 } in
    map (λ (f : MadeFile). f.name) (files_of (cycle_files often (due_at often cycle) cycle s ledger))

first_names : (p : Parameters) (s : State) (l : LedgerState) → names_at p 0 s l ≡ codes "mesh-0000.txt" ∷ codes "field-0000.bin" ∷ codes "state-0000.cello" ∷ []
unfolding names_at mesh_name fields_name state_name
first_names p s l = refl

later_names : (p : Parameters) (s : State) (l : LedgerState) → names_at p 20 s l ≡ codes "state-0020.cello" ∷ []
unfolding names_at state_name
later_names p s l = refl

no_names : (p : Parameters) (s : State) (l : LedgerState) → names_at p 39 s l ≡ []
unfolding names_at
no_names p s l = refl

-- ---- a whole run

root : Cube
root = record { level = 0; x = 0; y = 0; z = 0 }

one_tree : Bool → Grid
one_tree wraps = record { trees_x = 1; trees_y = 1; trees_z = 1; wraps_x = wraps; wraps_y = wraps; wraps_z = wraps; finest = 0 }

-- the root block of 4 * 4 * 4 cells with one field of these amounts
one_block : Bool → List ℕ → State
one_block wraps amounts = record { grid = one_tree wraps; edge = 4; fields = 1; leaves = root ∷ []; amounts = (amounts ∷ []) ∷ [] }

-- the fourth cell holds 1, the first one does, or none
in_fourth : List ℕ
in_fourth = 0 ∷ 0 ∷ 0 ∷ 1 ∷ replicate 60 0

in_first : List ℕ
in_first = 1 ∷ replicate 63 0

in_none : List ℕ
in_none = replicate 64 0

-- the ledger at the start, and after a cycle in which so much left
ledger_at_start : LedgerState
ledger_at_start = first_ledger (1 ∷ 0 ∷ 0 ∷ 0 ∷ [])

ledger_after : ℕ → LedgerState
ledger_after left = later_ledger ledger_at_start (left ∷ 0 ∷ 0 ∷ 0 ∷ [])

-- a run of one cycle, in which so much leaves and which leads to these amounts
told_of : Bool → List ℕ → ℕ → List Told
told_of wraps later left =
    cycle_ended 0 (one_block wraps in_fourth) ledger_at_start ∷ phase_ended 1 1 ∷ cycle_ended 1 (one_block wraps later) (ledger_after left) ∷ []

-- parameters with one field `a`, of the text of 322 bytes, and how often fields and checkpoints are written
with_a : Parameters → ℕ → ℕ → Parameters
with_a p fields checkpoints = record p { fields = codes "a" ∷ []; mesh_every = 0; fields_every = fields; checkpoint_every = checkpoints; text = drop_text }

-- The unit leaves over an open end. The report, and the names and lengths of the files.
leaving_report : (p : Parameters) → pieces_bytes (run_actions {L = ℕ} (with_a p 0 1) (told_of false in_none 1) (root ∷ []) None)
    ≡ codes "cello report 1\ncycle 0 leaves 1\nfield a total 1 out 0 gone 0\nphase 1 leaves 1\ncycle 1 leaves 1\nfield a total 0 out 1 gone 1\nmesh 1\n0 0 0 0\nend\n"
unfolding root one_tree one_block in_fourth in_none ledger_at_start ledger_after told_of with_a digits header_line phase_line cycle_line field_line count_line leaf_line mesh_text end_line
leaving_report p = refl

leaving_files : (p : Parameters) → map {B = List ℕ × ℕ × Bool} (λ (f : MadeFile). (f.name, length f.bytes, f.sealed)) (files_of (run_actions {L = ℕ} (with_a p 0 1) (told_of false in_none 1) (root ∷ []) None))
    ≡ (codes "state-0000.cello", 880, true) ∷ (codes "state-0001.cello", 880, true) ∷ []
unfolding root one_tree one_block in_fourth in_none ledger_at_start ledger_after told_of with_a state_name drop_text
leaving_files p = refl

-- The same with a limit after the phase's line: no closing piece.
limited_report : (p : Parameters) → pieces_bytes (run_actions {L = ℕ} (with_a p 0 1) (cycle_ended 0 (one_block false in_fourth) ledger_at_start ∷ phase_ended 1 1 ∷ []) (root ∷ []) (Some 0))
    ≡ codes "cello report 1\ncycle 0 leaves 1\nfield a total 1 out 0 gone 0\nphase 1 leaves 1\n"
unfolding root one_tree one_block in_fourth ledger_at_start with_a digits header_line phase_line cycle_line field_line
limited_report p = refl

-- The unit comes back at the other end. Two files of fields, whose fourth and whose first amount is 1.
moving_report : (p : Parameters) → pieces_bytes (run_actions {L = ℕ} (with_a p 1 0) (told_of true in_first 0) (root ∷ []) None)
    ≡ codes "cello report 1\ncycle 0 leaves 1\nfield a total 1 out 0 gone 0\nphase 1 leaves 1\ncycle 1 leaves 1\nfield a total 1 out 0 gone 0\nmesh 1\n0 0 0 0\nend\n"
unfolding root one_tree one_block in_fourth in_first ledger_at_start ledger_after told_of with_a digits header_line phase_line cycle_line field_line count_line leaf_line mesh_text end_line
moving_report p = refl

moving_files : (p : Parameters) → files_of (run_actions {L = ℕ} (with_a p 1 0) (told_of true in_first 0) (root ∷ []) None)
    ≡ record { name = codes "field-0000.bin"; bytes = (0 ∷ 0 ∷ 0 ∷ 0 ∷ 0 ∷ 0 ∷ 0 ∷ 1 ∷ 0 ∷ 0 ∷ 0 ∷ 1 ∷ 0 ∷ 0 ∷ 0 ∷ 4 ∷ replicate 8 0) ++ (replicate 31 0 ++ (1 ∷ replicate 480 0)); sealed = true }
    ∷ record { name = codes "field-0001.bin"; bytes = (0 ∷ 0 ∷ 0 ∷ 1 ∷ 0 ∷ 0 ∷ 0 ∷ 1 ∷ 0 ∷ 0 ∷ 0 ∷ 1 ∷ 0 ∷ 0 ∷ 0 ∷ 4 ∷ replicate 8 0) ++ (replicate 7 0 ++ (1 ∷ replicate 504 0)); sealed = true }
    ∷ []
unfolding root one_tree one_block in_fourth in_first ledger_at_start ledger_after told_of with_a fields_name
moving_files p = refl

-- What a run writes: pieces of its report and whole files, one after another.
use Rattle.std.specs.Prelude.{ℕ, ◌+◌, Bool, cond, List, [], ◌∷◌, ◌++◌, length, take, slice_index, Option, None, Some}
use Rattle.std.specs.List.{flat_map}
use Rattle.block_index.specs.Places.{Cube}
use Rattle.block_fields.specs.States.{State, total}
use Rattle.amount_ledger.specs.Ledgers.{LedgerState}
use Rattle.params_check.specs.Parameters.{Parameters}
use Rattle.checkpoint.specs.SavedStates.{SavedState}
use Rattle.checkpoint.specs.Spelling as checkpoint
use Rattle.mesh_output.specs.FieldFiles.{field_bytes}
use Rattle.mesh_output.specs.Lines.{header_line, restart_line, phase_line, cycle_line, field_line, mesh_text, end_line}
use Rattle.run_core.specs.Courses.{Told, phase_ended, cycle_ended, is_due, totals_of}
use Rattle.run_report.specs.declared.due.Due.{Due}
use Rattle.run_report.specs.FileNames.{mesh_name, fields_name, state_name}

-- a piece of the report, or a whole file
pub data Action : Type 0 where
  piece : (bytes : List ℕ) → Action
  file : (name bytes : List ℕ) → Action

-- ---- the report

-- a piece for each element of a list, numbered from `k` on
abbrev pub numbered_pieces : {A : Type 0} → (ℕ → A → List ℕ) → ℕ → List A → List Action
numbered_pieces line k [] = []
numbered_pieces line k (x ∷ xs) = piece (line k x) ∷ numbered_pieces line (k + 1) xs

-- the line of a field in a state: its name, its total, and by the ledger what left in the last cycle and in all
abbrev pub told_field : State → LedgerState → ℕ → List ℕ → List ℕ
told_field s ledger f name = field_line name (total s f) (slice_index ledger.out f) (slice_index ledger.gone f)

-- the lines of a cycle that ended in this state with this ledger: the number of leaves, and each field in order
abbrev pub cycle_pieces : Parameters → ℕ → State → LedgerState → List Action
cycle_pieces p cycle s ledger = piece (cycle_line cycle (length s.leaves)) ∷ numbered_pieces (told_field s ledger) 0 p.fields

-- the last piece of the report of a run that no limit ended: its mesh, and the last line
abbrev pub closing_piece : List Cube → Action
closing_piece leaves = piece (mesh_text leaves ++ end_line)

-- ---- files

-- which files are due at a cycle
abbrev pub due_at : Parameters → ℕ → Due
due_at p cycle = record {
  mesh = is_due p.mesh_every cycle;
  fields = is_due p.fields_every cycle;
  checkpoint = is_due p.checkpoint_every cycle;
}

-- an action where it is due, and none elsewhere
abbrev pub where_due : Bool → Action → List Action
where_due due action = cond due (action ∷ []) []

-- what a checkpoint keeps of a cycle that ended in this state with this ledger
abbrev pub kept_state : Parameters → ℕ → State → LedgerState → SavedState
kept_state p cycle s ledger = record {
  params = p;
  cycle = cycle;
  places = s.leaves;
  amounts = s.amounts;
  totals = take (length p.fields) (totals_of s);
  gone = take (length p.fields) ledger.gone;
}

abbrev pub mesh_file : ℕ → State → Action
mesh_file cycle s = file (mesh_name cycle) (mesh_text s.leaves)

abbrev pub fields_file : ℕ → State → Action
fields_file cycle s = file (fields_name cycle) (field_bytes cycle s)

abbrev pub state_file : Parameters → ℕ → State → LedgerState → Action
state_file p cycle s ledger = file (state_name cycle) (checkpoint.bytes_of (kept_state p cycle s ledger))

-- the files of a cycle, of which some are due: those of the mesh, of the fields, and the checkpoint
abbrev pub cycle_files : Parameters → Due → ℕ → State → LedgerState → List Action
cycle_files p due cycle s ledger =
    where_due due.mesh (mesh_file cycle s) ++ (where_due due.fields (fields_file cycle s) ++ where_due due.checkpoint (state_file p cycle s ledger))

-- ---- a run

-- what is written of what is told: after a phase its line, after a cycle its lines and then the files that are due
abbrev pub actions_of : Parameters → Told → List Action
actions_of p (phase_ended phase leaves) = piece (phase_line phase leaves) ∷ []
actions_of p (cycle_ended cycle s ledger) = cycle_pieces p cycle s ledger ++ cycle_files p (due_at p cycle) cycle s ledger

abbrev pub report_actions : Parameters → List Told → List Action
report_actions p told = flat_map (actions_of p) told

-- the first line of the report, and what is told so far
abbrev pub opening_actions : Parameters → List Told → List Action
opening_actions p told = piece header_line ∷ report_actions p told

-- What a run writes behind its first lines, of which this is told and which ends on these leaves: what is told, and where
-- no limit ended it, the closing list.
abbrev pub later_actions : {L : Type 0} → Parameters → List Told → List Cube → Option L → List Action
later_actions p told leaves None = report_actions p told ++ closing_piece leaves ∷ []
later_actions p told leaves (Some limit) = report_actions p told

-- All that a run writes of which this is told and which ends on these leaves. Where a limit ended it, it isn't closed.
abbrev pub run_actions : {L : Type 0} → Parameters → List Told → List Cube → Option L → List Action
run_actions p told leaves limit = piece header_line ∷ later_actions p told leaves limit

-- the first lines of a run that goes on after a cycle from a mesh of so many leaves
abbrev pub restart_pieces : ℕ → ℕ → List Action
restart_pieces cycle leaves = piece header_line ∷ piece (restart_line cycle leaves) ∷ []

-- all that a run writes that goes on so
abbrev pub resumed_actions : {L : Type 0} → Parameters → ℕ → ℕ → List Told → List Cube → Option L → List Action
resumed_actions p cycle first told leaves limit = restart_pieces cycle first ++ later_actions p told leaves limit

-- What the demonstration writes of its run. Each line ends with a line feed, and numbers are decimal.
use Rattle.std.specs.Prelude.{◌≡◌, ℕ, ◌+◌, List, [], ◌∷◌, ◌++◌, None, Ok, codes, decimal, length, slice_index}
use Rattle.block_fields.specs.States.{total}
use Rattle.demo_params.specs.DemoTexts.{demo_text}
use Rattle.mesh_output.specs.Lines.{end_line}
use Rattle.params_syntax.specs.declared.tree.Group.{Group}
use Rattle.params_syntax.specs.Reading.{Spells}
use Rattle.params_check.specs.Parameters.{Parameters}
use Rattle.params_check.specs.Walks.{parameters_of}
use Rattle.run_core.specs.Courses.{RunState, whole}
use Rattle.run_core.specs.Runs.{RunEnds}

-- the seed and the size
unfoldable pub demo_line : ℕ → ℕ → List ℕ
demo_line seed size = codes "demo " ++ decimal seed ++ codes " " ++ decimal size ++ codes "\n"

-- how many leaves there are in the end, and after how many cycles
unfoldable pub leaves_line : ℕ → ℕ → List ℕ
leaves_line leaves cycles = codes "leaves " ++ decimal leaves ++ codes " cycles " ++ decimal cycles ++ codes "\n"

-- a field in the end: its name, its total, and what left the domain in all
unfoldable pub amounts_line : List ℕ → ℕ → ℕ → List ℕ
amounts_line name total gone = codes "field " ++ name ++ codes " total " ++ decimal total ++ codes " gone " ++ decimal gone ++ codes "\n"

-- the line of a field where a run stands, by its position and its name
abbrev pub told_amounts : RunState → ℕ → List ℕ → List ℕ
told_amounts s f name = amounts_line name (total s.state f) (slice_index s.ledger.gone f)

-- a line for each of the fields, numbered from `k` on
abbrev pub amounts_lines : RunState → ℕ → List (List ℕ) → List ℕ
amounts_lines s k [] = []
amounts_lines s k (name ∷ names) = told_amounts s k name ++ amounts_lines s (k + 1) names

-- all that is written where the run of these parameters ends so
abbrev pub summary : ℕ → ℕ → Parameters → RunState → List ℕ
summary seed size p s =
    demo_line seed size ++ (leaves_line (length s.state.leaves) p.cycles ++ (amounts_lines s 0 p.fields ++ end_line))

-- The bytes are the summary of the demonstration of this seed and this size: its text spells a tree with parameters,
-- whose run ends after its last phase, and the bytes tell of that end.
pub record IsSummary (seed size : ℕ) (bytes : List ℕ) : Type 0 where
  pub groups : List Group
  pub parameters : Parameters
  pub spells : Spells (demo_text seed size) groups
  pub accepted : parameters_of groups ≡ Ok parameters
  pub run : RunState
  pub ends : RunEnds (whole parameters) run None
  pub is : bytes ≡ summary seed size parameters run

-- The lines of a report and the text of a mesh. Each line ends with a line feed, and numbers are decimal.
use Rattle.std.specs.Prelude.{ℕ, List, ◌++◌, length, codes, decimal}
use Rattle.std.specs.List.{flat_map}
use Rattle.block_index.specs.Places.{Cube}
use Rattle.text_line.specs.Shown.{shown_place}

unfoldable pub header_line : List ℕ
header_line = codes "cello report 1\n"

-- the second line of a run that goes on: the cycle after which it does, and the number of leaves then
unfoldable pub restart_line : ℕ → ℕ → List ℕ
restart_line cycle leaves = codes "restart cycle " ++ decimal cycle ++ codes " leaves " ++ decimal leaves ++ codes "\n"

-- after an adapt phase: its number and the new number of leaves
unfoldable pub phase_line : ℕ → ℕ → List ℕ
phase_line phase leaves = codes "phase " ++ decimal phase ++ codes " leaves " ++ decimal leaves ++ codes "\n"

-- after a cycle
unfoldable pub cycle_line : ℕ → ℕ → List ℕ
cycle_line cycle leaves = codes "cycle " ++ decimal cycle ++ codes " leaves " ++ decimal leaves ++ codes "\n"

-- a field after a cycle: its name, its total, and what left the domain in this cycle and in all
unfoldable pub field_line : List ℕ → ℕ → ℕ → ℕ → List ℕ
field_line name total out gone =
    codes "field " ++ name ++ codes " total " ++ decimal total ++ codes " out " ++ decimal out ++ codes " gone " ++ decimal gone ++ codes "\n"

-- how many leaves a mesh has
unfoldable pub count_line : ℕ → List ℕ
count_line leaves = codes "mesh " ++ decimal leaves ++ codes "\n"

-- a leaf: its level and coordinates
unfoldable pub leaf_line : Cube → List ℕ
leaf_line c = shown_place c ++ codes "\n"

-- a mesh: the number of its leaves, and each of them in order
unfoldable pub mesh_text : List Cube → List ℕ
mesh_text mesh = count_line (length mesh) ++ flat_map leaf_line mesh

unfoldable pub end_line : List ℕ
end_line = codes "end\n"

-- The names of the files of a cycle.
use Rattle.std.specs.Prelude.{ℕ, ◌+◌, ◌/◌, ◌%◌, List, [], ◌∷◌, ◌++◌, codes}

-- the last decimal digit of a number
abbrev pub last_digit : ℕ → ℕ
last_digit n = 48 + n % 10

-- a number below 10,000 in four digits, with zeros in front
abbrev pub four_digits : ℕ → List ℕ
four_digits n = last_digit (n / 1000) ∷ last_digit (n / 100) ∷ last_digit (n / 10) ∷ last_digit n ∷ []

-- the text of a mesh
unfoldable pub mesh_name : ℕ → List ℕ
mesh_name cycle = codes "mesh-" ++ four_digits cycle ++ codes ".txt"

-- the fields of a state
unfoldable pub fields_name : ℕ → List ℕ
fields_name cycle = codes "field-" ++ four_digits cycle ++ codes ".bin"

-- a checkpoint
unfoldable pub state_name : ℕ → List ℕ
state_name cycle = codes "state-" ++ four_digits cycle ++ codes ".cello"

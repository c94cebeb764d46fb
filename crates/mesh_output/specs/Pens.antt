-- What a pen tells of the shelf whose open file it writes.
use Rattle.std.specs.Prelude.{ℕ, List, [], ◌∷◌}
use Rattle.std.specs.Option.{option_map}
use Rattle.std.specs.Borrow.{GName}
use Rattle.cello_io.specs.Files.{MadeFile, ShelfTells, with_last}

-- the bytes of the last file
abbrev pub last_bytes : List MadeFile → List ℕ
last_bytes [] = []
last_bytes (file ∷ []) = file.bytes
last_bytes (file ∷ next ∷ files) = last_bytes (next ∷ files)

-- the file without its bytes
abbrev pub emptied : MadeFile → MadeFile
emptied file = record file { bytes = [] }

-- What the shelf tells beside the bytes of its open file and its count of writing faults.
abbrev pub around_pen : ShelfTells → ShelfTells
around_pen tells = record tells { written = option_map (with_last emptied) tells.written; write_faults = 0 }

-- What a pen leaves as it is: which shelf it was put on, and what this tells around the pen.
pub record PenRest : Type 0 where
  pub shelf : GName
  pub around : ShelfTells

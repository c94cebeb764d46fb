-- The files of a shelf in memory: those that it is handed in with, and where those that are made lie in its room.
use Rattle.std.specs.Prelude.{ℕ, ◌+◌, ◌==◌, nat_eq, Bool, true, ◌&&◌, cond, is_none, List, [], ◌∷◌, map, take, drop, Option, Some, None}
use Rattle.std.specs.Cmp.Lexicographic.{pointwise}
use Rattle.cello_io.specs.declared.files.StoredFile.{StoredFile}
use Rattle.cello_io.specs.declared.files.WrittenFile.{WrittenFile}
use Rattle.cello_io.specs.Files.{MadeFile}

-- two names have the same bytes
abbrev pub same_name : List ℕ → List ℕ → Bool
same_name a b = pointwise nat_eq a b

-- the bytes of the file of a name
abbrev pub file_named : List StoredFile → List ℕ → Option (List ℕ)
file_named [] name = None
file_named (file ∷ files) name = cond (same_name file.name name) (Some file.bytes) (file_named files name)

-- no name stands twice
abbrev pub have_own_names : List StoredFile → Bool
have_own_names [] = true
have_own_names (file ∷ files) = is_none (file_named files file.name) && have_own_names files

-- the most files that are made
abbrev pub most_files : ℕ
most_files = 20000

-- a file that was made has the bytes that stand at its place in the room
abbrev pub made_of : List ℕ → WrittenFile → MadeFile
made_of room file = record { name = file.name; bytes = take file.length (drop file.start room); sealed = file.sealed }

abbrev pub made_files : List ℕ → List WrittenFile → List MadeFile
made_files room files = map (made_of room) files

-- the files lie one after another, from a place on to an end
abbrev pub lie_from : ℕ → List WrittenFile → ℕ → Bool
lie_from at [] end = at == end
lie_from at (file ∷ files) end = (file.start == at) && lie_from (at + file.length) files end

-- the entry of a file with so many bytes more
abbrev pub longer : ℕ → WrittenFile → WrittenFile
longer count file = record file { length = file.length + count }

-- the entry of a file that is complete
abbrev pub complete : WrittenFile → WrittenFile
complete file = record file { sealed = true }

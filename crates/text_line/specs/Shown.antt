-- How names and places are shown in a line, and how much room each wants. Numbers are decimal.
use Rattle.std.specs.Prelude.{ℕ, List, [], ◌∷◌, ◌++◌, codes, decimal}
use Rattle.block_index.specs.Places.{Cube}

-- the most bytes of a line
abbrev pub line_room : ℕ
line_room = 160

-- a name, or `-` where it is empty
abbrev pub shown_name : List ℕ → List ℕ
shown_name [] = codes "-"
shown_name (b ∷ bs) = b ∷ bs

-- the most bytes of a shown name
abbrev pub name_room : ℕ
name_room = 32

-- a place: its level and its coordinates
abbrev pub shown_place : Cube → List ℕ
shown_place c = decimal c.level ++ codes " " ++ decimal c.x ++ codes " " ++ decimal c.y ++ codes " " ++ decimal c.z

-- the most bytes of a shown place
abbrev pub place_room : ℕ
place_room = 21

-- The mesh after a phase: eight children where the level rises, the leaf where it stays, and the parent, once,
-- where it falls.
use Rattle.std.specs.Prelude.{ℕ, List, [], ◌∷◌, ◌++◌, cond, nat_lt, ◌==◌}
use Rattle.block_index.specs.Places.{Cube, child_of, parent_of, child_number}

-- the eight children in order
abbrev pub children_of : Cube → List Cube
children_of c =
    child_of c 0 ∷ child_of c 1 ∷ child_of c 2 ∷ child_of c 3 ∷ child_of c 4 ∷ child_of c 5 ∷ child_of c 6 ∷ child_of c 7 ∷ []

-- What a leaf leaves in the next mesh at its new level. A family that joins leaves its parent at its first child.
abbrev pub leaves_after : Cube → ℕ → List Cube
leaves_after c level =
    cond (nat_lt c.level level) (children_of c)
    (cond (c.level == level) (c ∷ []) (cond (child_number c == 0) (parent_of c ∷ []) []))

abbrev pub next_mesh : List Cube → List ℕ → List Cube
next_mesh [] levels = []
next_mesh (c ∷ cs) [] = []
next_mesh (c ∷ cs) (d ∷ ds) = leaves_after c d ++ next_mesh cs ds

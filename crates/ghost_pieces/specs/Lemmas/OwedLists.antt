-- What a leaf owes as a list: over the leaf itself and those that touch it, and over the directions.
use Rattle.std.specs.Prelude.{ℕ, cond, zero, suc, Bool, true, false, not, ◌&&◌, ℤ, List, [], ◌∷◌, map, slice_index_or, pos, negsuc}
use Rattle.std.specs.List.{filter, flat_map}
use Rattle.block_index.specs.Beyond.{Offset}
use Rattle.block_index.specs.Places.{Cube, Grid}
use Rattle.ghost_pieces.specs.Boxes.{reached_box, has_cells}
use Rattle.ghost_pieces.specs.Regions.{Region}
use Rattle.ghost_pieces.specs.Pieces.{PieceState, empty_piece}

-- all triples of steps, x fastest
abbrev pub directions : List Offset
directions =
    flat_map (λ z. flat_map (λ y. map (λ x. record { x = x; y = y; z = z }) (negsuc 0 ∷ pos 0 ∷ pos 1 ∷ [])) (negsuc 0 ∷ pos 0 ∷ pos 1 ∷ [])) (negsuc 0 ∷ pos 0 ∷ pos 1 ∷ [])

-- whether a step is none; all triples but the one that steps nowhere are directions
abbrev pub is_stay : ℤ → Bool
is_stay (pos zero) = true
is_stay (pos (suc k)) = false
is_stay (negsuc k) = false

abbrev pub is_some_step : Offset → Bool
is_some_step dir = not (is_stay dir.x && is_stay dir.y && is_stay dir.z)

-- the regions of the leaf b at j whose samples the leaf s at i holds
abbrev pub regions_between : Grid → ℕ → ℕ → ℕ → Cube → ℕ → Cube → List Region
regions_between grid n d j b i s =
    map (λ dir. record { receiver = j; sender = i; direction = dir }) (filter (λ dir. is_some_step dir && has_cells (reached_box grid n d b dir s)) directions)

-- of the leaf s at i, for itself and for the leaves at js, which touch it
abbrev pub owed : Grid → ℕ → ℕ → List Cube → ℕ → Cube → List ℕ → List Region
owed grid n d mesh i s js = flat_map (λ j. regions_between grid n d j (slice_index_or mesh j s) i s) (i ∷ js)

-- the step with a number of three
abbrev pub step_at : ℕ → ℤ
step_at zero = negsuc 0
step_at (suc zero) = pos 0
step_at (suc (suc k)) = pos 1

-- the empty pieces of these regions
abbrev pub pieces_between : Grid → ℕ → ℕ → ℕ → ℕ → Cube → ℕ → Cube → List PieceState
pieces_between grid n d fields j b i s =
    map (λ dir. empty_piece n d fields j b i s dir) (filter (λ dir. is_some_step dir && has_cells (reached_box grid n d b dir s)) directions)

abbrev pub owed_pieces : Grid → ℕ → ℕ → ℕ → List Cube → ℕ → Cube → List ℕ → List PieceState
owed_pieces grid n d fields mesh i s js = flat_map (λ j. pieces_between grid n d fields j (slice_index_or mesh j s) i s) (i ∷ js)

-- the one in a direction, if there is one
abbrev pub pieces_toward : Grid → ℕ → ℕ → ℕ → ℕ → Cube → ℕ → Cube → Offset → List PieceState
pieces_toward grid n d fields j b i s dir =
    cond (is_some_step dir && has_cells (reached_box grid n d b dir s)) (empty_piece n d fields j b i s dir ∷ []) []

-- How many coordinates of each step along an axis a block's part has, by which pieces are found.
use Rattle.std.specs.Prelude.{◌≡◌, ℕ, zero, suc, ◌*◌, ◌≤◌, Bool, ◌&&◌, cond, nat_lt, List, [], ◌∷◌, replicate, pos, negsuc}
use Rattle.std.specs.List.{flat_map, range_with_len}
use Rattle.block_index.specs.Beyond.{Offset}
use Rattle.block_index.specs.Places.{Cube}
use Rattle.ghost_pieces.specs.Boxes.{reached_part}
use Rattle.ghost_pieces.specs.Pieces.{PieceState}
use Rattle.ghost_pieces.specs.Lemmas.OwedLists.{is_some_step, step_at}

-- the counts of the parts of the three steps
pub record AreCounts (n d t : ℕ) (w : Bool) (a c b before own after : ℕ) : Type 0 where
  pub before_is : before ≡ (reached_part n d t w a c b (negsuc 0)).count
  pub own_is : own ≡ (reached_part n d t w a c b (pos 0)).count
  pub after_is : after ≡ (reached_part n d t w a c b (pos 1)).count

-- no step has more than a block has cells along an edge
pub record AreFew (before own after : ℕ) : Type 0 where
  pub before_most : before ≤ 16
  pub own_most : own ≤ 16
  pub after_most : after ≤ 16

-- the one of the step with a number
abbrev pub count_at : ℕ → ℕ → ℕ → ℕ → ℕ
count_at before own after zero = before
count_at before own after (suc zero) = own
count_at before own after (suc (suc k)) = after

-- the piece in a direction whose region has so many cells, if there are any
abbrev pub piece_of_size : ℕ → ℕ → Cube → ℕ → Cube → ℕ → Offset → List PieceState
piece_of_size fields j b i s size dir =
    cond (is_some_step dir && nat_lt 0 size)
    ((record { region = record { receiver = j; sender = i; direction = dir }; receiver = b; sender = s; amounts = replicate fields (replicate size 0) }) ∷ []) []

-- those of a row of directions, of a plane of them, and all, by the counts of the steps along the axes
abbrev pub row_pieces : ℕ → ℕ → Cube → ℕ → Cube → (ℕ → ℕ) → ℕ → ℕ → ℕ → List PieceState
row_pieces fields j b i s x area y z =
    flat_map (λ k. piece_of_size fields j b i s (area * x k) (record { x = step_at k; y = step_at y; z = step_at z })) (range_with_len 0 3)

abbrev pub plane_pieces : ℕ → ℕ → Cube → ℕ → Cube → (ℕ → ℕ) → (ℕ → ℕ) → ℕ → ℕ → List PieceState
plane_pieces fields j b i s x y deep z =
    flat_map (λ k. row_pieces fields j b i s x (deep * y k) k z) (range_with_len 0 3)

abbrev pub reached_pieces : ℕ → ℕ → Cube → ℕ → Cube → (ℕ → ℕ) → (ℕ → ℕ) → (ℕ → ℕ) → List PieceState
reached_pieces fields j b i s x y z = flat_map (λ k. plane_pieces fields j b i s x y (z k) k) (range_with_len 0 3)

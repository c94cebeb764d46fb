-- What code works out along an axis of a region, and the samples of a region's box by it.
use Rattle.std.specs.Prelude.{◌≡◌, ℕ, zero, suc, ◌+◌, ◌*◌, ◌/◌, ◌%◌, ◌<◌, ◌≤◌, Bool, ◌||◌, cond, nat_lt, List, map, ℤ, pos, negsuc}
use Rattle.std.specs.List.{range_with_len}
use Rattle.ghost_pieces.specs.Boxes.{reached_part}
use Rattle.ghost_pieces.specs.Sent.{offset_of, sent}

-- 1 where the stretch of a step goes on cell by cell, 0 where all of it is moved to the last cell inside
abbrev pub runs : ℕ → Bool → ℕ → ℤ → ℕ
runs t w a (pos zero) = 1
runs t w a (pos (suc k)) = cond (w || nat_lt (a + 1) t) 1 0
runs t w a (negsuc k) = cond (w || nat_lt 0 a) 1 0

-- along an axis, the offset of the coordinate i after the first
abbrev pub further : ℕ → Bool → ℕ → ℕ
further start goes i = start + cond goes 1 0 * i

-- the samples of a box in order, by what its parts along the axes say: start, whether they go on, count
abbrev pub box_amounts : ℕ → ℕ → ℕ → List ℕ → ℕ → Bool → ℕ → ℕ → Bool → ℕ → ℕ → Bool → ℕ → List ℕ
box_amounts n l m q x rx cx y ry cy z rz cz =
    map (λ i. sent n l m q (record { x = further x rx (i % cx); y = further y ry (i / cx % cy); z = further z rz (i / cx / cy) })) (range_with_len 0 (cz * cy * cx))

-- a part of at most 64 coordinates, all within a width
pub record FitsIn (width start : ℕ) (goes : Bool) (count : ℕ) : Type 0 where
  pub few : count ≤ 64
  pub near : 0 < count → start ≤ 64
  pub within : (i : ℕ) → i < count → further start goes i < width

-- what a part along an axis says of the part of a region there
pub record IsPart (n d t : ℕ) (w : Bool) (a c b : ℕ) (s : ℤ) (first count start : ℕ) (goes : Bool) : Type 0 where
  pub first_is : first ≡ (reached_part n d t w a c b s).first
  pub count_is : count ≡ (reached_part n d t w a c b s).count
  pub start_is : 0 < count → start ≡ offset_of n d t w a c b first
  pub goes_is : cond goes 1 0 ≡ runs t w a s

-- and of the offsets of its coordinates
pub record Follows (n d t : ℕ) (w : Bool) (a c b : ℕ) (first count start : ℕ) (goes : Bool) : Type 0 where
  pub offsets : (i : ℕ) → i < count → further start goes i ≡ offset_of n d t w a c b (first + i)
  pub below : (i : ℕ) → i < count → further start goes i < c

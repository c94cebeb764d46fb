-- What covers the place one step from a leaf: a leaf as wide, a coarser one, or the finer ones that lie against the
-- leaf there.
use Rattle.std.specs.Prelude.{◌≡◌, ℕ, zero, suc, ◌+◌, ◌*◌, ◌%◌, ◌<◌, Bool, true, ◌&&◌, ◌==◌, List, [], ◌∷◌, Some, length, slice_get, Contains, ℤ, pos, negsuc}
use Rattle.std.specs.List.Sorted.{IsStrictlyIncreasing}
use Rattle.block_index.specs.Places.{Cube, Grid, parent_of, covers}
use Rattle.block_index.specs.Beyond.{Offset, IsBeyond}
use Rattle.cello_neighbours.specs.declared.covers.Cover.{Cover}
use Rattle.cello_neighbours.specs.declared.covers.Cover.TheVariants.{Same, Coarser, Finer, Outside}

-- Whether a step along an axis comes in by a half of the place that it goes to, 0 for the lower and 1 for the upper: a
-- step of 1 by the lower one, a step of -1 by the upper one, and no step by both.
abbrev pub is_near_half : ℤ → ℕ → Bool
is_near_half (pos zero) half = true
is_near_half (pos (suc n)) half = half == 0
is_near_half (negsuc n) half = half == 1

-- how many halves that are
abbrev pub near_halves : ℤ → ℕ
near_halves (pos zero) = 2
near_halves (pos (suc n)) = 1
near_halves (negsuc n) = 1

-- a place lies on the side of its parent that a step in direction d comes in by
abbrev pub is_near : Offset → Cube → Bool
is_near d c = is_near_half d.x (c.x % 2) && is_near_half d.y (c.y % 2) && is_near_half d.z (c.z % 2)

-- the most finer leaves that lie against a leaf on one side, at a face
abbrev pub most_against : ℕ
most_against = 4

-- how many of the eight children of a place that are: 4, 2 or 1 for steps along one, two or three axes
abbrev pub near_children : Offset → ℕ
near_children d = near_halves d.x * near_halves d.y * near_halves d.z

-- c is a child of q on the side that a step in direction d comes in by
pub record LiesAgainst (d : Offset) (q c : Cube) : Type 0 where
  pub finer : c.level ≡ q.level + 1
  pub parent : parent_of c ≡ q
  pub near : is_near d c ≡ true

-- `js` are the positions of all leaves that are such children of q, ascending, and no such child is missing.
pub record AreAgainst (mesh : List Cube) (d : Offset) (q : Cube) (js : List ℕ) : Type 0 where
  pub ascending : IsStrictlyIncreasing js
  pub against : (j : ℕ) → Contains js j → (c : Cube) × (slice_get mesh j ≡ Some c) × LiesAgainst d q c
  pub all : (j : ℕ) (c : Cube) → slice_get mesh j ≡ Some c → LiesAgainst d q c → Contains js j
  pub count : length js ≡ near_children d

-- the leaf c at j is coarser than q and covers it
pub record IsCoarserOver (mesh : List Cube) (q : Cube) (j : ℕ) (c : Cube) : Type 0 where
  pub leaf : slice_get mesh j ≡ Some c
  pub coarser : c.level < q.level
  pub covers : covers c q ≡ true

-- what covers the place one step from the place a
abbrev pub IsCoverFrom : Grid → List Cube → Cube → Offset → Cover → Type 0
IsCoverFrom grid mesh a d (Same j) = (q : Cube) × IsBeyond grid a d q × (slice_get mesh j ≡ Some q)
IsCoverFrom grid mesh a d (Coarser j) = (q : Cube) × IsBeyond grid a d q × ((c : Cube) × IsCoarserOver mesh q j c)
IsCoverFrom grid mesh a d (Finer js) = (q : Cube) × IsBeyond grid a d q × AreAgainst mesh d q js
IsCoverFrom grid mesh a d Outside = (q : Cube) → IsBeyond grid a d q → ⊥

-- what covers the place one step from the leaf at b
abbrev pub IsCover : Grid → List Cube → ℕ → Offset → Cover → Type 0
IsCover grid mesh b d cover = (a : Cube) × (slice_get mesh b ≡ Some a) × IsCoverFrom grid mesh a d cover

-- the leaves that a cover names
abbrev pub leaves_of : Cover → List ℕ
leaves_of (Same j) = j ∷ []
leaves_of (Coarser j) = j ∷ []
leaves_of (Finer js) = js
leaves_of Outside = []

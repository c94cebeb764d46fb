-- Regions of ghost cells: those of one leaf in one direction whose samples one leaf holds.
use Rattle.std.specs.Prelude.{◌≡◌, ℕ, List, Some, slice_get}
use Rattle.std.specs.List.{flat_map}
use Rattle.block_index.specs.Beyond.{Offset}
use Rattle.block_index.specs.Places.{Cube, Grid}
use Rattle.ghost_pieces.specs.Ghosts.{Local, IsGhost, IsSource, steps_of, ghost_cell}

-- A region: the position of the leaf whose ghost cells these are, the position of the leaf that holds their samples,
-- and the direction as the first leaf sees it.
pub record Region : Type 0 where
  pub receiver : ℕ
  pub sender : ℕ
  pub direction : Offset

-- g is a ghost cell of the region
pub record IsRegionCell (grid : Grid) (n d : ℕ) (mesh : List Cube) (r : Region) (g : Local) : Type 0 where
  pub block : Cube
  pub source : Cube
  pub receives : slice_get mesh r.receiver ≡ Some block
  pub sends : slice_get mesh r.sender ≡ Some source
  pub ghost : IsGhost n d g
  pub direction : steps_of n d g ≡ r.direction
  pub held : IsSource n source (ghost_cell grid n d block g)

-- some ghost cell is of it
abbrev pub IsRegion : Grid → ℕ → ℕ → List Cube → Region → Type 0
IsRegion grid n d mesh r = (g : Local) × IsRegionCell grid n d mesh r g

-- the most regions of a leaf
abbrev pub most_regions : ℕ
most_regions = 56

-- x stands in the list
abbrev pub Member : {A : Type 0} → List A → A → Type 0
Member xs x = (p : ℕ) × (slice_get xs p ≡ Some x)

-- nothing stands twice in the list
abbrev pub Once : {A : Type 0} → List A → Type 0
Once {A} xs = (p q : ℕ) (x : A) → slice_get xs p ≡ Some x → slice_get xs q ≡ Some x → p ≡ q

-- What the leaf at i owes: all regions whose samples it holds, each once.
pub record AreOwed (grid : Grid) (n d : ℕ) (mesh : List Cube) (i : ℕ) (rs : List Region) : Type 0 where
  pub regions : (r : Region) → Member rs r → IsRegion grid n d mesh r
  pub own : (r : Region) → Member rs r → r.sender ≡ i
  pub all : (r : Region) → IsRegion grid n d mesh r → r.sender ≡ i → Member rs r
  pub once : Once rs

-- lists one after another
abbrev pub joined : {A : Type 0} → List (List A) → List A
joined lists = flat_map (λ xs. xs) lists

-- The cells with which a phase over a leaf set begins.
use Rattle.std.specs.Prelude.{◌≡◌, ℕ, List, Some, length, slice_get}
use Rattle.phase_core.specs.Lemmas.ListsByPlaces.{Has}
use Rattle.block_index.specs.Places.{Cube, Grid}
use Rattle.block_index.specs.declared.wish.Wish.{Wish}
use Rattle.leaf_set.specs.Opening.{IsOpening}
use Rattle.adapt_core.specs.Cells.{LeafPart, LeafState}
use Rattle.adapt_core.specs.Problem.{IsPartAt, unopened}

-- the part of the leaf at a position, with the wish and the opening level there
pub record IsPartOf (grid : Grid) (mesh : List Cube) (wishes : List Wish) (openings : List ℕ) (i : ℕ) (part : LeafPart) : Type 0 where
  pub is : IsPartAt grid mesh i part
  pub place : slice_get mesh i ≡ Some part.place
  pub wish : slice_get wishes i ≡ Some part.wish
  pub opening : slice_get openings i ≡ Some part.opening

-- a cell before anything is handled, with this part
pub record IsFirstCell (grid : Grid) (mesh : List Cube) (wishes : List Wish) (openings : List ℕ) (i : ℕ) (cell : LeafState) : Type 0 where
  pub fresh : cell ≡ unopened cell.part
  pub part : IsPartOf grid mesh wishes openings i cell.part

-- a first cell for each leaf, in order, with the opening levels of these wishes
pub record AreFirstCells (grid : Grid) (mesh : List Cube) (wishes : List Wish) (cells : List LeafState) : Type 0 where
  pub openings : List ℕ
  pub opening : IsOpening grid mesh wishes openings
  pub cells_are : Has (IsFirstCell grid mesh wishes openings) (length mesh) cells

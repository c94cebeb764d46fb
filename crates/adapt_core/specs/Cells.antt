-- Cells of the adapt phase as plain data: a cell a leaf, with what the problem says of the leaf and where it stands.
use Rattle.std.specs.Prelude.{ℕ, Bool, List}
use Rattle.block_index.specs.Places.{Cube, Grid}
use Rattle.block_index.specs.declared.wish.Wish.{Wish}

-- what a cell keeps of the problem: the leaf's position and place, its wish, the least level that the rules about
-- the leaf alone ask (its opening level), and the positions of the leaves that touch it, ascending, and of those of
-- them that are its siblings
pub record LeafPart : Type 0 where
  pub index : ℕ
  pub place : Cube
  pub wish : Wish
  pub opening : ℕ
  pub neighbours : List ℕ
  pub siblings : List ℕ

-- a cell: its part of the problem, its present level, and whether it has handled its start message
pub record LeafState : Type 0 where
  pub part : LeafPart
  pub level : ℕ
  pub started : Bool

-- the full problem: the domain and each leaf's part, in the order of the leaves
pub record AdaptProblem : Type 0 where
  pub grid : Grid
  pub parts : List LeafPart

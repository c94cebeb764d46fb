-- The problem of an adapt phase: a balanced mesh, a wish for each leaf, the opening levels, and the touching leaves.
use Rattle.std.specs.Prelude.{◌≡◌, ℕ, ◌-◌, ◌/◌, Bool, false, ◌&&◌, ◌==◌, nat_le, Option, None, Some, List, map, slice_get}
use Rattle.std.specs.List.{filter}
use Rattle.block_index.specs.Places.{Cube, Grid, IsDomain}
use Rattle.block_index.specs.declared.wish.Wish.{Wish}
use Rattle.leaf_set.specs.Meshes.{IsMesh, IsBalanced}
use Rattle.leaf_set.specs.Opening.{IsOpening}
use Rattle.leaf_set.specs.TouchingLeaves.{AreTouching}
use Rattle.adapt_core.specs.Cells.{LeafPart, LeafState, AdaptProblem}

-- the leaves, their wishes, and their opening levels
abbrev pub mesh_of : AdaptProblem → List Cube
mesh_of p = map (λ part. part.place) p.parts

abbrev pub wishes_of : AdaptProblem → List Wish
wishes_of p = map (λ part. part.wish) p.parts

abbrev pub openings_of : AdaptProblem → List ℕ
openings_of p = map (λ part. part.opening) p.parts

-- whether two places of one level, below the roots, have the same parent
abbrev pub are_siblings : Cube → Cube → Bool
are_siblings a c = nat_le 1 a.level && (c.level == a.level) && (c.x / 2 == a.x / 2) && (c.y / 2 == a.y / 2) && (c.z / 2 == a.z / 2)

-- whether there is a leaf, and it is a sibling
abbrev pub has_sibling : Cube → Option Cube → Bool
has_sibling a None = false
has_sibling a (Some c) = are_siblings a c

-- those of the leaves at these positions that are siblings of a place
abbrev pub siblings_among : List Cube → Cube → List ℕ → List ℕ
siblings_among mesh a js = filter (λ j. has_sibling a (slice_get mesh j)) js

-- the part of the leaf at position i: it knows its position, the leaves that touch it, and its siblings among them
pub record IsPartAt (grid : Grid) (mesh : List Cube) (i : ℕ) (part : LeafPart) : Type 0 where
  pub index : part.index ≡ i
  pub touching : AreTouching grid mesh i part.neighbours
  pub siblings : part.siblings ≡ siblings_among mesh part.place part.neighbours

-- a well-formed problem
pub record IsAdaptProblem (p : AdaptProblem) : Type 0 where
  pub domain : IsDomain p.grid
  pub mesh : IsMesh p.grid (mesh_of p)
  pub balanced : IsBalanced p.grid (mesh_of p)
  pub opening : IsOpening p.grid (mesh_of p) (wishes_of p) (openings_of p)
  pub parts : (i : ℕ) (part : LeafPart) → slice_get p.parts i ≡ Some part → IsPartAt p.grid (mesh_of p) i part

-- a cell before anything is handled: not started, at the coarsest level that it may get
abbrev pub unopened : LeafPart → LeafState
unopened part = record { part = part; level = part.place.level - 1; started = false }

-- what a phase over this domain and its cells work on
abbrev pub problem_of : Grid → List LeafState → AdaptProblem
problem_of grid cells = record { grid = grid; parts = map (λ cell. cell.part) cells }

-- the cells of a well-formed problem before anything is handled
pub record AdaptBegins (p : AdaptProblem) (cells : List LeafState) : Type 0 where
  pub problem : IsAdaptProblem p
  pub begun : cells ≡ map unopened p.parts

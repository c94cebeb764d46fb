-- How far a level changes from a mesh to the next.
use Rattle.std.specs.Prelude.{◌≡◌, ◌+◌, ◌≤◌, ◌⊎◌, true}
use Rattle.block_index.specs.Places.{Cube, covers}

-- one of the two places covers the other
abbrev pub Overlap : Cube → Cube → Type 0
Overlap a c = (covers a c ≡ true) ⊎ (covers c a ≡ true)

-- the levels of the two places differ by at most one
pub record DifferByAtMostOne (a c : Cube) : Type 0 where
  -- c is at most one level coarser
  pub coarser : a.level ≤ c.level + 1
  -- and at most one finer
  pub finer : c.level ≤ a.level + 1

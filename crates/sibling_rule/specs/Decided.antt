-- Levels that a phase may end with.
use Rattle.std.specs.Prelude.{ℕ, List}
use Rattle.block_index.specs.Places.{Cube, Grid}
use Rattle.block_index.specs.declared.wish.Wish.{Wish}
use Rattle.leaf_set.specs.LevelRules.{IsSolution}

-- the levels are a solution of the level rules for some wishes
abbrev pub IsDecided : Grid → List Cube → List ℕ → Type 0
IsDecided grid mesh levels = (wishes : List Wish) × IsSolution grid mesh wishes levels

-- Two ways to levels that meet the level rules: the greatest that the range allows, and the lesser of two lists at
-- each leaf.
use Rattle.std.specs.Prelude.{ℕ, ◌+◌, min, List, [], ◌∷◌, map}
use Rattle.block_index.specs.Places.{Cube, Grid}

-- each leaf one level finer, as far as the finest level allows
abbrev pub greatest_levels : Grid → List Cube → List ℕ
greatest_levels grid mesh = map (λ c. min (c.level + 1) grid.finest) mesh

-- the lesser of two levels at each leaf
abbrev pub pointwise_min : List ℕ → List ℕ → List ℕ
pointwise_min [] es = []
pointwise_min (d ∷ ds) [] = []
pointwise_min (d ∷ ds) (e ∷ es) = min d e ∷ pointwise_min ds es

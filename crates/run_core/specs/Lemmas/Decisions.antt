-- The next mesh by the decisions of a phase.
use Rattle.std.specs.Prelude.{◌≡◌, ℕ, List}
use Rattle.block_index.specs.Places.{Cube}
use Rattle.block_index.specs.declared.wish.Wish.{Wish}
use Rattle.leaf_set.specs.NextMesh.{next_mesh}
use Rattle.params_check.specs.Parameters.{Parameters}
use Rattle.run_core.specs.Runs.{Decides}

-- by these wishes one adapt phase leads from a mesh to the next
abbrev pub LeadsTo : Parameters → List Cube → List Wish → List Cube → Type 0
LeadsTo p mesh wishes next = (levels : List ℕ) × Decides p mesh wishes levels × (next ≡ next_mesh mesh levels)

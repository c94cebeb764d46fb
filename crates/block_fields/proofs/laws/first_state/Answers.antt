-- The law, from its lemma.
use Rattle.std.proofs.Common.{◌∙◌}
use Rattle.leaf_set.specs.RootMesh.{root_mesh}
use Rattle.block_fields.proofs.Totals.{total-filled}
use Rattle.block_fields.proofs.RootSums.{root_cells-sum}
use Rattle.block_fields.proofs.laws.first_state.Goals as goal

pub returns : goal.returns
returns c = record {
  total = λ grid n fields given f h. total-filled grid n fields (root_mesh grid) given f h ∙ root_cells-sum (given f) grid n;
}

-- The siblings so far are leaves.
use Rattle.std.proofs.Common.{ℕ, ◌<◌}
use Rattle.block_index.specs.Places.{child_of}
use Rattle.leaf_set.specs.Meshes.{IsLeaf}
use Rattle.sibling_rule.proofs.own_rules.is_lone.Given as goal

abbrev pub invariant-loop-k : goal.invariant-loop-k
invariant-loop-k l = (j : ℕ) → j < l.k → IsLeaf l.set.places (child_of l.parent j)

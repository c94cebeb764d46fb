use Rattle.std.proofs.Common.{◌≡◌, ℕ, ◌<◌, ◌∙◌, arith, le_trans, length}
use Rattle.leaf_set.specs.RootMesh.{root_mesh}
use Rattle.leaf_set.proofs.RootMeshes.{root_mesh-IsMesh, root_mesh-IsBalanced}
use Rattle.block_fields.specs.States.{total}
use Rattle.block_fields.proofs.FilledStates.{IsState-filled}
use Rattle.block_fields.proofs.RootSums.{root_cells-sum}
use Rattle.block_fields.proofs.Totals.{total-filled}
use Rattle.params_check.specs.Parameters.{Parameters, total_of}
use Rattle.initial_fill.specs.RootBlocks.{given_by, initial_state}
use Rattle.initial_fill.proofs.Amounts.{root_amount-initial_total}
use Rattle.initial_fill.proofs.laws.initial_totals.Goals as goal

total-initial_state : (p : Parameters) (f : ℕ) → f < length p.fields → total (initial_state p) f ≡ total_of p f
total-initial_state p f h =
    total-filled p.grid p.block (length p.fields) (root_mesh p.grid) (given_by p) f h ∙ root_cells-sum (given_by p f) p.grid p.block

pub returns-clause-state : goal.returns-clause-state
returns-clause-state c p w =
    let low = w.block.low in
    IsState-filled p.grid p.block (length p.fields) (root_mesh p.grid) (given_by p) w.domain (root_mesh-IsMesh p.grid w.domain) (omega arith) (root_mesh-IsBalanced p.grid)

pub returns-clause-total : goal.returns-clause-total
returns-clause-total c p f h = total-initial_state p f h

pub returns-clause-most : goal.returns-clause-most
returns-clause-most c p f w h =
    let most = w.totals f h in
    omega (arith, total-initial_state p f h)

pub returns-clause-cell : goal.returns-clause-cell
returns-clause-cell c p f x y z w h hx hy hz =
    le_trans (root_amount-initial_total p.grid p.block p.shapes f x y z hx hy hz) (w.totals f h)

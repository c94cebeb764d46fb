-- The blocks of the roots.
use Rattle.std.proofs.Common.{◌≡◌, ℕ, ◌^◌, ◌<◌, ◌≤◌, List, length, ap, sym, subst, arith}
use Rattle.block_index.specs.Places.{Cube, Grid}
use Rattle.leaf_set.specs.RootMesh.{root_mesh}
use Rattle.leaf_set.specs.Tiling.{Tiling}
use Rattle.block_fields.specs.Blocks.{BlockState}
use Rattle.block_fields.specs.BlockStates.{AreBlocksOf, state_of}
use Rattle.block_fields.specs.States.{State, total}
use Rattle.params_check.specs.Parameters.{IsParameters, Parameters}
use Rattle.initial_fill.specs.RootBlocks.{initial_state, root_depth}
use Rattle.split_join.specs.Applying.{AreBlocksOfSet}

-- they are those of the root leaves, and no field has too much
pub AreBlocksOfSet-roots : (p : Parameters) (set : Tiling) (grid : Grid) (blocks : List BlockState) → IsParameters p → grid ≡ p.grid
    → set.grid ≡ grid → set.places ≡ root_mesh grid
    → AreBlocksOf (root_mesh p.grid) p.block (length p.fields) root_depth blocks
    → state_of p.grid p.block (length p.fields) blocks ≡ initial_state p
    → ((q : Parameters) (f : ℕ) → IsParameters q → f < length q.fields → total (initial_state q) f ≤ 2 ^ 40) → AreBlocksOfSet set blocks
AreBlocksOfSet-roots p set grid blocks w same own roots are state most =
    let leaves : set.places ≡ root_mesh p.grid = subst (λ (g : Grid). set.places ≡ root_mesh g) same roots in
    let here : set.grid ≡ p.grid = subst (λ (g : Grid). set.grid ≡ g) same own in
    let few : (f : ℕ) → f < length p.fields → total (state_of set.grid p.block (length p.fields) blocks) f ≤ 2 ^ 42 =
    λ f h. subst (λ (g : Grid). total (state_of g p.block (length p.fields) blocks) f ≤ 2 ^ 42) (sym here)
    (subst (λ (s : State). total s f ≤ 2 ^ 42) (sym state) (let few : total (initial_state p) f ≤ 2 ^ 40 = most p f w h in omega arith)) in (
      p.block,
      length p.fields,
      root_depth,
      subst (λ (l : List Cube). AreBlocksOf l p.block (length p.fields) root_depth blocks) (sym leaves) are,
      few,
    )

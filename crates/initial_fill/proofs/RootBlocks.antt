-- The blocks of the roots, and the state that they make up.
use Rattle.std.proofs.Common.{◌≡◌, ℕ, ◌*◌, refl, sym, ap, ◌∙◌, subst, arith, List, length, map, replicate}
use Rattle.std.specs.List.{range_with_len}
use Rattle.std.proofs.lemmas.List.{length-map, length-replicate, map-id}
use Rattle.std.proofs.lemmas.List.FromFn.{length-map-range_with_len}
use Rattle.std.proofs.lemmas.Simd.{map-map}
use Rattle.block_index.specs.Places.{Cube}
use Rattle.leaf_set.specs.RootMesh.{root_mesh}
use Rattle.params_check.specs.Parameters.{IsParameters, Parameters}
use Rattle.block_fields.specs.Blocks.{BlockState, IsBlock, zero_block}
use Rattle.block_fields.specs.BlockStates.{AreBlocksOf, IsBlockOf, state_of}
use Rattle.block_fields.specs.Cells.{cells_of}
use Rattle.block_fields.specs.Layout.{HaveLength}
use Rattle.block_fields.specs.Shells.{ghost_count}
use Rattle.block_fields.proofs.CellFacts.{cells_of-length}
use Rattle.block_fields.proofs.FilledStates.{map-at}
use Rattle.block_fields.proofs.Layouts.{IsLaidOut-IsBlock}
use Rattle.block_fields.proofs.StatesOfBlocks.{filled-state_by}
use Rattle.block_fields.proofs.Zeros.{IsLaidOut-zeros, laid_out-zeros}
use Rattle.initial_fill.specs.RootBlocks.{given_by, initial_state, root_block, root_depth}

IsBlock-amounts : (b : BlockState) (a : List (List ℕ)) → IsBlock b → length a ≡ length b.amounts → HaveLength (b.edge * b.edge * b.edge) a → IsBlock (record b { amounts = a })
IsBlock-amounts b a w same cells = record {
  even = w.even;
  least = w.least;
  most = w.most;
  shallowest = w.shallowest;
  deepest = w.deepest;
  few = (let few = w.few in omega arith);
  one_before_each = w.one_before_each ∙ sym same;
  one_shell_each = w.one_shell_each ∙ sym same;
  all_cells = cells;
  all_before = w.all_before;
  all_directions = w.all_directions;
  all_ghosts = w.all_ghosts;
}

module _ (p : Parameters) (w : IsParameters p) where
  pub IsBlockOf-root_block : (place : Cube) → IsBlockOf p.block (length p.fields) root_depth (root_block p place)
  IsBlockOf-root_block place =
      let n = p.block in
      let fields = length p.fields in
      let cells : List (List ℕ) = replicate fields (replicate (n * n * n) 0) in
      let shells : List (List ℕ) = replicate fields (replicate (ghost_count n root_depth) 0) in
      let block = w.block in
      let zeros : IsBlock (zero_block place n fields root_depth) =
      subst IsBlock (laid_out-zeros place n root_depth fields)
      (IsLaidOut-IsBlock place n root_depth cells cells shells
      (IsLaidOut-zeros n root_depth fields block.even block.low block.high (omega arith) (omega arith) w.few_fields)) in
      let given : ℕ → List ℕ = λ f. map (given_by p f) (cells_of n place) in
      let many : length (map given (range_with_len 0 fields)) ≡ fields = length-map-range_with_len given 0 fields in
      let low = block.low in
      record {
        limits =
            IsBlock-amounts (zero_block place n fields root_depth) (map given (range_with_len 0 fields)) zeros
            (many ∙ sym (length-replicate fields (replicate {A = ℕ} (n * n * n) 0)))
            (λ f q e.
            let o = map-at given (range_with_len 0 fields) f q e in
            ap length o.2 ∙ length-map (cells_of n place) (given_by p o.0) ∙ cells_of-length n (omega arith) place);
        same_edge = refl;
        same_fields = many;
        same_depth = refl;
      }

  pub AreBlocksOf-root_blocks : (leaves : List Cube) → AreBlocksOf leaves p.block (length p.fields) root_depth (map (root_block p) leaves)
  AreBlocksOf-root_blocks leaves = record {
    places = map-map (λ (b : BlockState). b.place) (root_block p) leaves ∙ map-id leaves;
    each = λ i b e.
        let o = map-at (root_block p) leaves i b e in
        subst (IsBlockOf p.block (length p.fields) root_depth) (sym o.2) (IsBlockOf-root_block o.0);
  }

pub state_of-root_blocks : (p : Parameters) → state_of p.grid p.block (length p.fields) (map (root_block p) (root_mesh p.grid)) ≡ initial_state p
state_of-root_blocks p =
    let n = p.block in
    let fields = length p.fields in
    let leaves = root_mesh p.grid in
    filled-state_by (λ b. b.amounts) p.grid leaves n fields (map (root_block p) leaves) (given_by p)
    (map-map (λ (b : BlockState). b.place) (root_block p) leaves ∙ map-id leaves)
    (λ i b e.
    let o = map-at (root_block p) leaves i b e in
    ap (λ (b : BlockState). b.amounts) o.2
    ∙ ap (λ place. map (λ f. map (given_by p f) (cells_of n place)) (range_with_len 0 fields)) (sym (ap (λ (b : BlockState). b.place) o.2)))

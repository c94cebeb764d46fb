-- Limits of the blocks that are made anew.
use Rattle.std.proofs.Common.{◌≡◌, ℕ, ◌*◌, ◌<◌, refl, sym, ap, ◌∙◌, subst, arith, List, [], slice_index_or, length, map, replicate}
use Rattle.std.specs.List.{range_with_len}
use Rattle.std.proofs.lemmas.List.{length-map, length-replicate}
use Rattle.std.proofs.lemmas.List.FromFn.{length-map-range_with_len}
use Rattle.block_index.specs.Places.{Cube, child_of}
use Rattle.block_fields.specs.Blocks.{BlockState, IsBlock, zero_block}
use Rattle.block_fields.specs.BlockStates.{IsBlockOf}
use Rattle.block_fields.specs.Divisions.{parts_of, sums_of, split_amounts, join_amounts}
use Rattle.block_fields.specs.Layout.{HaveLength}
use Rattle.block_fields.specs.Shells.{ghost_count}
use Rattle.block_fields.proofs.CellFacts.{cells_of-length}
use Rattle.block_fields.proofs.FilledStates.{map-at}
use Rattle.block_fields.proofs.Layouts.{IsLaidOut-IsBlock}
use Rattle.block_fields.proofs.Zeros.{IsLaidOut-zeros, laid_out-zeros}
use Rattle.split_join.specs.Lemmas.NewBlocks.{child_block, joined_block}

-- a block of zeros as large as another block
IsBlock-zeros : (place : Cube) (b : BlockState) → IsBlock b → IsBlock (zero_block place b.edge (length b.amounts) b.depth)
IsBlock-zeros place b w =
    let n = b.edge in
    let fields = length b.amounts in
    subst IsBlock (laid_out-zeros place n b.depth fields)
    (IsLaidOut-IsBlock place n b.depth (replicate fields (replicate (n * n * n) 0)) (replicate fields (replicate (n * n * n) 0)) (replicate fields (replicate (ghost_count n b.depth) 0))
    (IsLaidOut-zeros n b.depth fields w.even w.least w.most w.shallowest w.deepest w.few))

-- with other amounts
IsBlock-amounts : (z : BlockState) (amounts : List (List ℕ)) → IsBlock z → length amounts ≡ length z.amounts → HaveLength (z.edge * z.edge * z.edge) amounts → IsBlock (record z { amounts = amounts })
IsBlock-amounts z amounts w l cells = record {
  even = w.even;
  least = w.least;
  most = w.most;
  shallowest = w.shallowest;
  deepest = w.deepest;
  few = (let f = w.few in omega arith);
  one_before_each = w.one_before_each ∙ sym l;
  one_shell_each = w.one_shell_each ∙ sym l;
  all_cells = cells;
  all_before = w.all_before;
  all_directions = w.all_directions;
  all_ghosts = w.all_ghosts;
}

HaveLength-split : (n : ℕ) (p : Cube) (amounts : List (List ℕ)) → 0 < n → HaveLength (n * n * n) (split_amounts n p amounts)
HaveLength-split n p amounts some f q e =
    let o = map-at (parts_of n p) amounts f q e in
    ap length o.2 ∙ length-map _ _ ∙ cells_of-length n some p

HaveLength-join : (n fields : ℕ) (p : Cube) (blocks : List (List (List ℕ))) → 0 < n → HaveLength (n * n * n) (join_amounts n fields p blocks)
HaveLength-join n fields p blocks some f q e =
    let o = map-at (λ f. sums_of n p (map (λ b. slice_index_or b f []) blocks)) (range_with_len 0 fields) f q e in
    ap length o.2 ∙ length-map _ _ ∙ cells_of-length n some p

pub IsBlockOf-child_block : (n fields depth : ℕ) (b : BlockState) (k : ℕ) → IsBlockOf n fields depth b → IsBlockOf n fields depth (child_block b k)
IsBlockOf-child_block n fields depth b k w =
    let place = child_of b.place k in
    let z = zero_block place b.edge (length b.amounts) b.depth in
    let l : length (split_amounts b.edge place b.amounts) ≡ length b.amounts = length-map b.amounts (parts_of b.edge place) in
    record {
      limits = IsBlock-amounts z (split_amounts b.edge place b.amounts) (IsBlock-zeros place b w.limits) (l ∙ sym (length-replicate (length b.amounts) (replicate (b.edge * b.edge * b.edge) 0))) (HaveLength-split b.edge place b.amounts (let e = w.limits.least in omega arith));
      same_edge = w.same_edge;
      same_fields = l ∙ w.same_fields;
      same_depth = w.same_depth;
    }

-- the parent is as large as one of the blocks
pub IsBlockOf-joined_block : (n fields depth : ℕ) (b : BlockState) (p : Cube) (family : List BlockState) → IsBlockOf n fields depth b → IsBlockOf n fields depth (joined_block n fields depth p family)
IsBlockOf-joined_block n fields depth b p family w =
    let blocks = map (λ (b : BlockState). b.amounts) family in
    let zeros : IsBlock (zero_block p n fields depth) = subst (λ d. IsBlock (zero_block p n fields d)) w.same_depth (subst (λ f. IsBlock (zero_block p n f b.depth)) w.same_fields (subst (λ e. IsBlock (zero_block p e (length b.amounts) b.depth)) w.same_edge (IsBlock-zeros p b w.limits))) in
    let l : length (join_amounts n fields p blocks) ≡ fields = length-map-range_with_len (λ f. sums_of n p (map (λ b. slice_index_or b f []) blocks)) 0 fields in
    record {
      limits = IsBlock-amounts (zero_block p n fields depth) (join_amounts n fields p blocks) zeros (l ∙ sym (length-replicate fields (replicate (n * n * n) 0))) (HaveLength-join n fields p blocks (let e = zeros.least in omega arith));
      same_edge = refl;
      same_fields = l;
      same_depth = refl;
    }

-- The states that the blocks of a mesh make up, in their amounts or in the second copies of these.
use Rattle.std.proofs.Common.{◌≡◌, ℕ, ◌*◌, ◌<◌, ◌≤◌, refl, sym, ap, ◌∙◌, subst, arith, List, [], Some, slice_get, slice_index, slice_index_or, get_or, length, map, sum, sum_by}
use Rattle.std.specs.List.{range_with_len}
use Rattle.std.proofs.lemmas.List.{length-map, get_or-map}
use Rattle.std.proofs.lemmas.List.FromFn.{fill_by_all}
use Rattle.std.proofs.lemmas.Option.{slice_get-get_or, get_or_from_slice_get}
use Rattle.std.proofs.lemmas.Simd.{map-map}
use Rattle.block_index.specs.Places.{Cube, Grid, IsDomain}
use Rattle.leaf_set.specs.Meshes.{IsMesh, IsBalanced}
use Rattle.leaf_set.proofs.MeshFacts.{leaves_distinct}
use Rattle.block_fields.specs.Blocks.{BlockState}
use Rattle.block_fields.specs.BlockStates.{AreBlocksOf}
use Rattle.block_fields.specs.Cells.{block_of, cell_at, cell_number, cells_of}
use Rattle.block_fields.specs.States.{State, IsState, field_of, filled, held, total}
use Rattle.block_fields.proofs.BlockSamples.{map-same}
use Rattle.block_fields.proofs.CellFacts.{cells_of-length, slice_get-cells_of}
use Rattle.block_fields.proofs.FilledStates.{map-at, at-map}
use Rattle.block_fields.proofs.Sums.{sum-map}
use Rattle.block_fields.proofs.Totals.{amount_in-at}

-- a state of some lists of each block
abbrev pub state_by : (BlockState → List (List ℕ)) → Grid → ℕ → ℕ → List BlockState → State
state_by lists grid n fields blocks = record {
  grid = grid;
  edge = n;
  fields = fields;
  leaves = map (λ b. b.place) blocks;
  amounts = map lists blocks;
}

-- the lists are one a field, with an amount for each cell
pub record HaveCells (lists : BlockState → List (List ℕ)) (n fields : ℕ) (blocks : List BlockState) : Type 0 where
  pub one_each : (i : ℕ) (b : BlockState) → slice_get blocks i ≡ Some b → length (lists b) ≡ fields
  pub full : (i f : ℕ) (b : BlockState) (q : List ℕ) → slice_get blocks i ≡ Some b → slice_get (lists b) f ≡ Some q → length q ≡ n * n * n

module _ (leaves : List Cube) (n fields depth : ℕ) (blocks : List BlockState) (w : AreBlocksOf leaves n fields depth blocks) where
  pub HaveCells-amounts : HaveCells (λ b. b.amounts) n fields blocks
  HaveCells-amounts = record {
    one_each = λ i b e. (w.each i b e).same_fields;
    full = λ i f b q e t. let o = w.each i b e in o.limits.all_cells f q t ∙ ap (λ k. k * k * k) o.same_edge;
  }

  pub HaveCells-before : HaveCells (λ b. b.before) n fields blocks
  HaveCells-before = record {
    one_each = λ i b e. let o = w.each i b e in o.limits.one_before_each ∙ o.same_fields;
    full = λ i f b q e t. let o = w.each i b e in o.limits.all_before f q t ∙ ap (λ k. k * k * k) o.same_edge;
  }

-- the total is the sum over the blocks
pub total-state_by : (lists : BlockState → List (List ℕ)) (grid : Grid) (n fields : ℕ) (blocks : List BlockState) (f : ℕ) → total (state_by lists grid n fields blocks) f ≡ sum_by (λ b. sum (slice_index_or (lists b) f [])) blocks
total-state_by lists grid n fields blocks f =
    sum-map sum (λ block. slice_index_or block f []) (map lists blocks)
    ∙ sum-map (λ block. sum (slice_index_or block f [])) lists blocks

module _ (lists : BlockState → List (List ℕ)) (grid : Grid) (leaves : List Cube) (n fields : ℕ) (blocks : List BlockState) (places : map (λ b. b.place) blocks ≡ leaves) (cells : HaveCells lists n fields blocks) where
  pub IsState-state_by : IsDomain grid → IsMesh grid leaves → IsBalanced grid leaves → 2 ≤ n → IsState (state_by lists grid n fields blocks)
  IsState-state_by g m balanced edge = record {
    domain = g;
    mesh = subst (IsMesh grid) (sym places) m;
    balanced = subst (IsBalanced grid) (sym places) balanced;
    edge = edge;
    one_each = length-map blocks lists ∙ sym (length-map blocks (λ b. b.place));
    all_fields = λ i block e. fields_of i block (map-at lists blocks i block e);
    all_cells = λ i f block q e t. cells_in i f block q t (map-at lists blocks i block e);
  }
    where
      fields_of : (i : ℕ) (block : List (List ℕ)) → ((b : BlockState) × (slice_get blocks i ≡ Some b) × (block ≡ lists b)) → length block ≡ fields
      fields_of i block o = ap length o.2 ∙ cells.one_each i o.0 o.1

      cells_in : (i f : ℕ) (block : List (List ℕ)) (q : List ℕ) → slice_get block f ≡ Some q → ((b : BlockState) × (slice_get blocks i ≡ Some b) × (block ≡ lists b)) → length q ≡ n * n * n
      cells_in i f block q t o = cells.full i f o.0 q o.1 (ap (λ l. slice_get l f) (sym o.2) ∙ t)

  -- what the state holds at a cell of a block
  pub held-state_by : IsDomain grid → IsMesh grid leaves → (i f : ℕ) (b : BlockState) (c : Cube) → slice_get blocks i ≡ Some b → block_of n c ≡ b.place → held (state_by lists grid n fields blocks) f c ≡ slice_index (slice_index_or (lists b) f []) (cell_number n c)
  held-state_by g m i f b c at e =
      let s = state_by lists grid n fields blocks in
      amount_in-at n s.leaves (field_of s f) i b.place c (slice_index_or (lists b) f []) (leaves_distinct grid s.leaves g (subst (IsMesh grid) (sym places) m)) (at-map (λ b. b.place) blocks i b at)
      (at-map (λ block. slice_index_or block f []) (map lists blocks) i (lists b) (at-map lists blocks i b at)) e

-- a block's lists by their cells
pub lists-filled : (q : List (List ℕ)) (n fields : ℕ) (place : Cube) (given : ℕ → Cube → ℕ) → 0 < n → length q ≡ fields → ((f : ℕ) (p : List ℕ) → slice_get q f ≡ Some p → length p ≡ n * n * n) → ((f j : ℕ) → f < fields → j < n * n * n → slice_index (slice_index_or q f []) j ≡ given f (cell_at n place j)) → q ≡ map (λ f. map (given f) (cells_of n place)) (range_with_len 0 fields)
lists-filled q n fields place given some one_each full same =
    fill_by_all (λ f. map (given f) (cells_of n place)) q fields [] one_each (λ f h.
    let p = get_or q f [] in
    let long : length p ≡ n * n * n = full f p (slice_get-get_or q f [] (omega arith)) in
    let xs = cells_of n place in
    let l = cells_of-length n some place in
    fill_by_all (slice_index p) p (n * n * n) 0 long (λ j k. refl)
    ∙ sym (fill_by_all (slice_index p) (map (given f) xs) (n * n * n) 0 (length-map xs (given f) ∙ l) (λ j k.
    get_or-map (given f) xs j (cell_at n place j) 0 (omega arith)
    ∙ ap (given f) (get_or_from_slice_get xs j (cell_at n place j) (cell_at n place j) (slice_get-cells_of n some place j k))
    ∙ sym (same f j h k))))

-- blocks that hold what a function gives are the filled state
pub filled-state_by : (lists : BlockState → List (List ℕ)) (grid : Grid) (leaves : List Cube) (n fields : ℕ) (blocks : List BlockState) (given : ℕ → Cube → ℕ) → map (λ b. b.place) blocks ≡ leaves → ((i : ℕ) (b : BlockState) → slice_get blocks i ≡ Some b → lists b ≡ map (λ f. map (given f) (cells_of n b.place)) (range_with_len 0 fields)) → state_by lists grid n fields blocks ≡ filled grid n fields leaves given
filled-state_by lists grid leaves n fields blocks given places same =
    let block : Cube → List (List ℕ) = λ b. map (λ f. map (given f) (cells_of n b)) (range_with_len 0 fields) in
    ap (λ a. record { grid = grid; edge = n; fields = fields; leaves = map (λ b. b.place) blocks; amounts = a })
    (map-same lists (λ b. block b.place) blocks same ∙ sym (map-map block (λ b. b.place) blocks))
    ∙ ap (λ l. filled grid n fields l given) places

-- The pieces of regions: their size, and the samples that a filled one carries.
use Rattle.std.proofs.Common.{◌≡◌, ℕ, ◌*◌, ◌%◌, ◌<◌, ◌≤◌, true, sym, ap, ◌∙◌, subst, arith, List, [], Some, slice_get, slice_index_or, get_or, length, map, replicate}
use Rattle.std.specs.List.{range_with_len}
use Rattle.std.proofs.lemmas.List.{length-map, get_or-map, length-replicate, get_or-replicate}
use Rattle.std.proofs.lemmas.List.FromFn.{fill_by_all, length-map-range_with_len}
use Rattle.std.proofs.lemmas.Option.{same_Some, slice_get_within, slice_get-get_or}
use Rattle.block_index.specs.Places.{Cube, Grid, IsDomain}
use Rattle.leaf_set.specs.Meshes.{IsMesh, IsBalanced}
use Rattle.block_fields.specs.Blocks.{BlockState}
use Rattle.block_fields.specs.BlockStates.{IsLeafOf}
use Rattle.block_fields.specs.Samples.{sample}
use Rattle.block_fields.specs.States.{State, IsState}
use Rattle.block_fields.proofs.FilledStates.{map-at}
use Rattle.ghost_pieces.specs.Ghosts.{ghost_cell}
use Rattle.ghost_pieces.specs.Boxes.{box_size, cell_in, has_cells}
use Rattle.ghost_pieces.specs.Regions.{IsRegion, Member}
use Rattle.ghost_pieces.specs.Sent.{piece_amounts}
use Rattle.ghost_pieces.specs.Pieces.{PieceState, AreOwedPieces, CarriesSamples, FitsSize, HasRegion, IsBetweenLeaves, box_of, filled}
use Rattle.ghost_pieces.proofs.BoxLaw.{leaves_level, region_found, region_is_box}
use Rattle.ghost_pieces.proofs.Lists.{member-map}
use Rattle.ghost_pieces.proofs.Pieces.{piece-sent}
use Rattle.ghost_pieces.proofs.SameBoxes.{reached-region}

-- ---- lists

pub in_replicate : {A : Type 0} (n : ℕ) (a : A) (i : ℕ) (x : A) → slice_get (replicate n a) i ≡ Some x → x ≡ a
in_replicate n a i x e =
    let l = slice_get_within (replicate n a) i x e in
    let k : i < n = omega (arith, length-replicate n a) in
    same_Some x (get_or (replicate n a) i a) (sym e ∙ slice_get-get_or (replicate n a) i a l) ∙ get_or-replicate n i a a k

-- by number instead of by element
pub by_number : {A B : Type 0} (f : ℕ → B) (g : A → B) (xs : List A) (n : ℕ) (a : A) (d : B) → length xs ≡ n → ((i : ℕ) → i < n → f i ≡ g (get_or xs i a)) → map f (range_with_len 0 n) ≡ map g xs
by_number f g xs n a d l h =
    sym (fill_by_all f (map g xs) n d (length-map xs g ∙ l) (λ k w. get_or-map g xs k a d (omega arith) ∙ sym (h k w)))

-- ---- sizes

module _ (grid : Grid) (leaves : List Cube) (n d : ℕ) (dom : IsDomain grid) (mesh : IsMesh grid leaves) (balanced : IsBalanced grid leaves) (even : n % 2 ≡ 0) (deep : 2 * d ≤ n) (some : 0 < n) (p : PieceState) (between : IsBetweenLeaves leaves p) (x : IsRegion grid n d leaves p.region) where
  pub piece_region : HasRegion grid n d p
  piece_region = record {
    inside = mesh.inside p.region.receiver p.receiver between.receives;
    reached = region_found grid leaves n d p.region p.receiver p.sender dom mesh balanced even deep between.receives between.sends some x;
  }

  box_cells : has_cells (box_of n d p) ≡ true
  box_cells =
      let f = piece_region.reached in
      subst (λ b. has_cells b ≡ true) (reached-region grid n d p.receiver p.region.direction p.sender f) f

  pub piece_size : (fields : ℕ) → length p.amounts ≡ fields → ((f : ℕ) (q : List ℕ) → slice_get p.amounts f ≡ Some q → length q ≡ box_size (box_of n d p)) → FitsSize n d fields p
  piece_size fields l each =
      let o = leaves_level grid leaves n d p.region p.receiver p.sender dom mesh balanced even deep between.receives between.sends x in
      record { near = o.1; far = o.0; cells = box_cells; one_each = l; all_cells = each }

module _ (grid : Grid) (leaves : List Cube) (n d fields i k : ℕ) (ps : List PieceState) (p : PieceState) (owed : AreOwedPieces grid n d fields leaves i ps) (at : slice_get ps k ≡ Some p) where
  listed : Member (map (λ (p : PieceState). p.region) ps) p.region
  listed = member-map (λ (p : PieceState). p.region) ps p (k, at)

  pub owed_between : (p.region.sender ≡ i) × IsRegion grid n d leaves p.region × IsBetweenLeaves leaves p
  owed_between = (owed.regions.own p.region listed, owed.regions.regions p.region listed, owed.leaves k p at)

  pub owed_length : length p.amounts ≡ fields
  owed_length = ap length (owed.zeros k p at) ∙ length-replicate fields (replicate (box_size (box_of n d p)) 0)

  pub owed_cells : (f : ℕ) (q : List ℕ) → slice_get p.amounts f ≡ Some q → length q ≡ box_size (box_of n d p)
  owed_cells f q e =
      let z : List ℕ = replicate (box_size (box_of n d p)) 0 in
      ap length (in_replicate fields z f q (subst (λ l. slice_get l f ≡ Some q) (owed.zeros k p at) e))
      ∙ length-replicate (box_size (box_of n d p)) 0

-- ---- filled pieces

pub filled_cells : (grid : Grid) (b : BlockState) (p : PieceState) (f : ℕ) (q : List ℕ) → slice_get (filled grid b p).amounts f ≡ Some q → length q ≡ box_size (box_of b.edge b.depth p)
filled_cells grid b p f q e =
    let given = piece_amounts grid b.edge b.depth p.receiver p.region.direction p.sender in
    let o = map-at given b.amounts f q e in
    ap length o.2 ∙ long o.0
  where
    long : (q : List ℕ) → length (piece_amounts grid b.edge b.depth p.receiver p.region.direction p.sender q) ≡ box_size (box_of b.edge b.depth p)
    long q = length-map-range_with_len _ 0 (box_size (box_of b.edge b.depth p))

pub filled_size : (grid : Grid) (fields : ℕ) (b : BlockState) (p : PieceState) → length b.amounts ≡ fields → FitsSize b.edge b.depth fields p → FitsSize b.edge b.depth fields (filled grid b p)
filled_size grid fields b p l h = record {
  near = h.near;
  far = h.far;
  cells = h.cells;
  one_each = length-map b.amounts (piece_amounts grid b.edge b.depth p.receiver p.region.direction p.sender) ∙ l;
  all_cells = filled_cells grid b p;
}

module _ (s : State) (w : IsState s) (even : s.edge % 2 ≡ 0) (d : ℕ) (deep : 2 * d ≤ s.edge) where
  some : 0 < s.edge
  some = let e = w.edge in omega arith

  pub samples_sent : (b : BlockState) (p : PieceState) → b.depth ≡ d → IsLeafOf s p.region.sender b → IsBetweenLeaves s.leaves p → IsRegion s.grid s.edge d s.leaves p.region → CarriesSamples s d (filled s.grid b p)
  samples_sent b p same leaf between x = record {
    leaves = record { receives = between.receives; sends = between.sends };
    region = x;
    samples =
        sym (by_number (λ f. map (λ i. sample s f (ghost_cell s.grid s.edge d p.receiver (cell_in (box_of s.edge d p) i))) (range_with_len 0 (box_size (box_of s.edge d p))))
        (piece_amounts s.grid b.edge b.depth p.receiver p.region.direction p.sender) b.amounts s.fields [] [] (w.all_fields p.region.sender b.amounts leaf.held) (λ f l.
        piece-sent s w d even f p.region p.receiver p.sender b.amounts between.receives between.sends leaf.held
        (λ g q. (region_is_box s.grid s.leaves s.edge d p.region p.receiver p.sender w.domain w.mesh w.balanced even deep between.receives between.sends some g x).1 q)
        ∙ ap (λ n. piece_amounts s.grid n d p.receiver p.region.direction p.sender (slice_index_or b.amounts f [])) (sym leaf.same_edge)
        ∙ ap (λ n. piece_amounts s.grid b.edge n p.receiver p.region.direction p.sender (slice_index_or b.amounts f [])) (sym same)));
  }

  pub carried_length : (p : PieceState) → CarriesSamples s d p → length p.amounts ≡ s.fields
  carried_length p c = ap length c.samples ∙ length-map-range_with_len (λ f. map (λ i. sample s f (ghost_cell s.grid s.edge d p.receiver (cell_in (box_of s.edge d p) i))) (range_with_len 0 (box_size (box_of s.edge d p)))) 0 s.fields

  pub carried_size : (p : PieceState) → CarriesSamples s d p → FitsSize s.edge d s.fields p
  carried_size p c =
      piece_size s.grid s.leaves s.edge d w.domain w.mesh w.balanced even deep some p c.leaves c.region s.fields (carried_length p c) (λ f q e.
      let o = map-at (λ f. map (λ i. sample s f (ghost_cell s.grid s.edge d p.receiver (cell_in (box_of s.edge d p) i))) (range_with_len 0 (box_size (box_of s.edge d p)))) (range_with_len 0 s.fields) f q (subst (λ l. slice_get l f ≡ Some q) c.samples e) in
      ap length o.2 ∙ length-map-range_with_len (λ i. sample s o.0 (ghost_cell s.grid s.edge d p.receiver (cell_in (box_of s.edge d p) i))) 0 (box_size (box_of s.edge d p)))

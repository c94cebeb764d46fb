-- The samples at the cells of a block, from the amounts of the block, of its parent or of its children.
use Rattle.std.proofs.Common.{◌≡◌, ℕ, zero, suc, ◌*◌, ◌<◌, refl, sym, ap, ◌∙◌, subst, arith, List, [], ◌∷◌, Some, slice_get, slice_index, slice_index_or, get_or, length, map, sum_by}
use Rattle.std.specs.List.{range_with_len}
use Rattle.std.proofs.lemmas.List.{length-map, get_or-map}
use Rattle.std.proofs.lemmas.List.FromFn.{fill_by_all}
use Rattle.std.proofs.lemmas.Option.{slice_get-get_or}
use Rattle.block_index.specs.Places.{Cube, child_of, parent_of, child_number}
use Rattle.leaf_set.specs.NextMesh.{children_of}
use Rattle.leaf_set.proofs.Containment.{parent_of-child_of, child_of-child_number, child_number_below}
use Rattle.leaf_set.proofs.MeshFacts.{leaves_distinct}
use Rattle.leaf_set.proofs.NextLeaves.{child_at}
use Rattle.block_fields.specs.Cells.{block_of, cell_number, cells_of}
use Rattle.block_fields.specs.Divisions.{parts_of, sums_of, split_amounts, join_amounts}
use Rattle.cello_num.specs.Parts.{part}
use Rattle.block_fields.specs.States.{State, IsState, held, field_of}
use Rattle.block_fields.specs.Samples.{sample}
use Rattle.block_fields.proofs.Sums.{sum-same}
use Rattle.block_fields.proofs.CellFacts.{cells_of-block, cells_of-number, cells_of-length, block_of-parent_of, Contains-block_of-child_of}
use Rattle.block_fields.proofs.FilledStates.{at-map}
use Rattle.block_fields.proofs.SampleCases.{sample-here, sample-coarser, sample-finer}
use Rattle.block_fields.proofs.Totals.{amount_in-at}

pub map-same : {A B : Type 0} (f g : A → B) (xs : List A) → ((i : ℕ) (x : A) → slice_get xs i ≡ Some x → f x ≡ g x) → map f xs ≡ map g xs
map-same f g [] h = refl
map-same f g (x ∷ xs) h = ap (λ y. y ∷ map f xs) (h zero x refl) ∙ ap (λ ys. g x ∷ ys) (map-same f g xs (λ i y e. h (suc i) y e))

-- by number instead of by element
numbered : {A B : Type 0} (f : ℕ → B) (g : A → B) (xs : List A) (n : ℕ) (a : A) (d : B) → length xs ≡ n → ((i : ℕ) → i < n → f i ≡ g (get_or xs i a)) → map f (range_with_len 0 n) ≡ map g xs
numbered f g xs n a d l h =
    sym (fill_by_all f (map g xs) n d (length-map xs g ∙ l) (λ k w. get_or-map g xs k a d (omega arith) ∙ sym (h k w)))

module _ (s : State) (w : IsState s) where
  -- what the leaf at i holds at a cell of its block
  pub held-at : (f i : ℕ) (b c : Cube) (blk : List (List ℕ)) → slice_get s.leaves i ≡ Some b → slice_get s.amounts i ≡ Some blk → block_of s.edge c ≡ b → held s f c ≡ slice_index (slice_index_or blk f []) (cell_number s.edge c)
  held-at f i b c blk at has e =
      amount_in-at s.edge s.leaves (field_of s f) i b c (slice_index_or blk f []) (leaves_distinct s.grid s.leaves w.domain w.mesh) at (at-map (λ blk. slice_index_or blk f []) s.amounts i blk has) e

  some : 0 < s.edge
  some = let e = w.edge in omega arith

  -- ---- of its own

  pub samples-kept : (i : ℕ) (b : Cube) (blk : List (List ℕ)) → slice_get s.leaves i ≡ Some b → slice_get s.amounts i ≡ Some blk → map (λ f. map (sample s f) (cells_of s.edge b)) (range_with_len 0 s.fields) ≡ blk
  samples-kept i b blk at has =
      let len = w.all_fields i blk has in
      numbered (λ f. map (sample s f) (cells_of s.edge b)) (λ q. q) blk s.fields [] [] len (λ f l.
      let q = get_or blk f [] in
      let there : slice_get blk f ≡ Some q = slice_get-get_or blk f [] (omega arith) in
      let long : length q ≡ s.edge * s.edge * s.edge = w.all_cells i f blk q has there in
      map-same (sample s f) (λ c. slice_index q (cell_number s.edge c)) (cells_of s.edge b) (λ j c k.
      let e = cells_of-block s.edge some b j c k in
      sample-here s f c (i, at ∙ ap Some (sym e)) ∙ held-at f i b c blk at has e)
      ∙ by_number b q long)
      ∙ same blk
    where
      same : (xs : List (List ℕ)) → map (λ q. q) xs ≡ xs
      same [] = refl
      same (x ∷ xs) = ap (λ ys. x ∷ ys) (same xs)

      by_number : (b : Cube) (q : List ℕ) → length q ≡ s.edge * s.edge * s.edge → map (λ c. slice_index q (cell_number s.edge c)) (cells_of s.edge b) ≡ q
      by_number b q long =
          let xs = map (λ c. slice_index q (cell_number s.edge c)) (cells_of s.edge b) in
          let n = s.edge * s.edge * s.edge in
          fill_by_all (slice_index q) xs n 0 (length-map (cells_of s.edge b) (λ c. slice_index q (cell_number s.edge c)) ∙ cells_of-length s.edge some b) (λ k l.
          let c = get_or (cells_of s.edge b) k b in
          let len = cells_of-length s.edge some b in
          get_or-map (λ c. slice_index q (cell_number s.edge c)) (cells_of s.edge b) k b 0 (omega arith)
          ∙ ap (slice_index q) (cells_of-number s.edge some b k c (slice_get-get_or (cells_of s.edge b) k b (omega arith))))
          ∙ sym (fill_by_all (slice_index q) q n 0 long (λ k l. refl))

  -- ---- of its parent

  pub samples-split : (i k : ℕ) (a : Cube) (blk : List (List ℕ)) → slice_get s.leaves i ≡ Some a → slice_get s.amounts i ≡ Some blk → k < 8 → map (λ f. map (sample s f) (cells_of s.edge (child_of a k))) (range_with_len 0 s.fields) ≡ split_amounts s.edge (child_of a k) blk
  samples-split i k a blk at has l =
      numbered (λ f. map (sample s f) (cells_of s.edge (child_of a k))) (parts_of s.edge (child_of a k)) blk s.fields [] [] (w.all_fields i blk has) (λ f _.
      map-same (sample s f) (λ c. part (slice_index (get_or blk f []) (cell_number s.edge (parent_of c))) (child_number c)) (cells_of s.edge (child_of a k)) (λ j c e.
      let b = cells_of-block s.edge some (child_of a k) j c e in
      let up : parent_of (block_of s.edge c) ≡ a = ap parent_of b ∙ parent_of-child_of a k l in
      let high : block_of s.edge (parent_of c) ≡ a = block_of-parent_of s.edge c ∙ up in
      let level : 0 < c.level = let v = ap (λ (p : Cube). p.level) b in omega arith in
      sample-coarser s f c w level (i, at ∙ ap Some (sym up))
      ∙ ap (λ q. part q (child_number c)) (held-at f i a (parent_of c) blk at has high)))

  -- ---- of its children

  pub samples-joined : (p : Cube) (blocks : List (List (List ℕ))) → length blocks ≡ 8 → ((k : ℕ) (blk : List (List ℕ)) → slice_get blocks k ≡ Some blk → (i : ℕ) × (slice_get s.leaves i ≡ Some (child_of p k)) × (slice_get s.amounts i ≡ Some blk)) → map (λ f. map (sample s f) (cells_of s.edge p)) (range_with_len 0 s.fields) ≡ join_amounts s.edge s.fields p blocks
  samples-joined p blocks eight at =
      map-same (λ f. map (sample s f) (cells_of s.edge p)) (λ f. sums_of s.edge p (map (λ b. slice_index_or b f []) blocks)) (range_with_len 0 s.fields) (λ m f _.
      map-same (sample s f) (λ c. sum_by (λ e. slice_index (slice_index_or (map (λ b. slice_index_or b f []) blocks) (child_number (block_of s.edge e)) []) (cell_number s.edge e)) (children_of c)) (cells_of s.edge p) (λ j c e.
      let b = cells_of-block s.edge some p j c e in
      let leaf : (k : ℕ) → k < 8 → (i : ℕ) × (slice_get s.leaves i ≡ Some (block_of s.edge (child_of c k))) × (slice_get s.amounts i ≡ Some (get_or blocks (child_number (block_of s.edge (child_of c k))) [])) = λ k l.
      let r = block_of s.edge (child_of c k) in
      let down = child_of-child_number (block_of s.edge c) r (Contains-block_of-child_of s.edge c k l) in
      let h = child_number_below r in
      let o = at (child_number r) (get_or blocks (child_number r) []) (slice_get-get_or blocks (child_number r) [] (omega arith)) in
      (o.0, o.1 ∙ ap (λ q. Some (child_of q (child_number r))) (sym b) ∙ ap Some down, o.2) in
      sample-finer s f c w (λ k l. let o = leaf k l in (o.0, o.1))
      ∙ sum-same (held s f) (λ e. slice_index (slice_index_or (map (λ b. slice_index_or b f []) blocks) (child_number (block_of s.edge e)) []) (cell_number s.edge e)) (children_of c) (λ k e t.
      let v = child_at c e k t in
      let o = leaf k v.0 in
      let r = block_of s.edge (child_of c k) in
      let h = child_number_below r in
      subst (λ e. held s f e ≡ slice_index (slice_index_or (map (λ b. slice_index_or b f []) blocks) (child_number (block_of s.edge e)) []) (cell_number s.edge e)) (sym v.1)
      (held-at f o.0 r (child_of c k) (get_or blocks (child_number r) []) o.1 o.2 refl
      ∙ ap (λ q. slice_index q (cell_number s.edge (child_of c k))) (sym (get_or-map (λ b. slice_index_or b f []) blocks (child_number r) [] [] (omega arith)))))))

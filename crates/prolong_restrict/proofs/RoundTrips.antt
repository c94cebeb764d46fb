-- The sums of all parts.
use Rattle.std.proofs.Common.{◌≡◌, ℕ, ◌*◌, ◌<◌, refl, sym, ap, ◌∙◌, arith, List, [], ◌∷◌, Some, slice_get, slice_index, slice_index_or, length, map, get_or, sum_by}
use Rattle.std.specs.List.{range_with_len}
use Rattle.std.proofs.lemmas.List.FromFn.{fill_by_all, get_or-map-range_with_len}
use Rattle.std.proofs.lemmas.List.{length-map, get_or-map}
use Rattle.std.proofs.lemmas.Option.{slice_get-get_or, get_or_from_slice_get}
use Rattle.std.proofs.lemmas.Simd.{map-map}
use Rattle.block_index.specs.Places.{Cube, child_of, parent_of, child_number}
use Rattle.leaf_set.specs.NextMesh.{children_of}
use Rattle.leaf_set.proofs.Containment.{parent_of-child_of, child_number-child_of, child_of-child_number, child_number_below}
use Rattle.cello_num.specs.Parts.{part}
use Rattle.cello_num.proofs.PartSums.{parts_add}
use Rattle.block_fields.specs.Cells.{block_of, cell_at, cell_number, cells_of}
use Rattle.block_fields.specs.Divisions.{parts_of, sums_of, split_amounts, join_amounts}
use Rattle.block_fields.proofs.CellFacts.{block_of-cell_at, cell_number-cell_at, cell_number-below, cells_of-has, cells_of-length, slice_get-cells_of, Contains-block_of-child_of}

map-same : {A B : Type 0} (f g : A → B) (xs : List A) → ((x : A) → f x ≡ g x) → map f xs ≡ map g xs
map-same f g [] h = refl
map-same f g (x ∷ xs) h = ap (λ y. y ∷ map f xs) (h x) ∙ ap (λ ys. g x ∷ ys) (map-same f g xs h)

module _ (n : ℕ) (some : 0 < n) where
  -- the part of a cell among those of its block
  part_at : (e : Cube) (q : List ℕ) → slice_index (parts_of n (block_of n e) q) (cell_number n e) ≡ part (slice_index q (cell_number n (parent_of e))) (child_number e)
  part_at e q =
      let f : Cube → ℕ = λ c. part (slice_index q (cell_number n (parent_of c))) (child_number c) in
      let xs = cells_of n (block_of n e) in
      let l = cells_of-length n some (block_of n e) in
      let h = cell_number-below n some e in
      get_or-map f xs (cell_number n e) e 0 (omega arith)
      ∙ ap f (get_or_from_slice_get xs (cell_number n e) e e (cells_of-has n some e))

  module _ (a : Cube) (q : List ℕ) where
    finer : (c : Cube) (k : ℕ) → block_of n c ≡ a → k < 8 → slice_index (slice_index_or (map (λ k. parts_of n (child_of a k) q) (range_with_len 0 8)) (child_number (block_of n (child_of c k))) []) (cell_number n (child_of c k)) ≡ part (slice_index q (cell_number n c)) k
    finer c k in_a hk =
        let e = child_of c k in
        let m = child_number (block_of n e) in
        let down : child_of a m ≡ block_of n e = ap (λ p. child_of p m) (sym in_a) ∙ child_of-child_number (block_of n c) (block_of n e) (Contains-block_of-child_of n c k hk) in
        ap (λ (l : List ℕ). slice_index l (cell_number n e)) (get_or-map-range_with_len (λ k. parts_of n (child_of a k) q) 0 8 m m [] (child_number_below (block_of n e)) (omega arith))
        ∙ ap (λ p. slice_index (parts_of n p q) (cell_number n e)) down
        ∙ part_at e q
        ∙ ap (λ p. part (slice_index q (cell_number n p)) (child_number e)) (parent_of-child_of c k hk)
        ∙ ap (part (slice_index q (cell_number n c))) (child_number-child_of c k hk)

    pub sums_of-parts_of : length q ≡ n * n * n → sums_of n a (map (λ k. parts_of n (child_of a k) q) (range_with_len 0 8)) ≡ q
    sums_of-parts_of long =
        let qs = map (λ k. parts_of n (child_of a k) q) (range_with_len 0 8) in
        let g : Cube → ℕ = λ c. sum_by (λ e. slice_index (slice_index_or qs (child_number (block_of n e)) []) (cell_number n e)) (children_of c) in
        let xs = cells_of n a in
        let len = cells_of-length n some a in
        fill_by_all (slice_index q) (map g xs) (n * n * n) 0 (length-map xs g ∙ len) (λ i h.
        let c = cell_at n a i in
        let in_a = block_of-cell_at n some a i h in
        let w : (k : ℕ) → k < 8 → slice_index (slice_index_or qs (child_number (block_of n (child_of c k))) []) (cell_number n (child_of c k)) ≡ part (slice_index q (cell_number n c)) k = λ k l. finer c k in_a l in
        let p = parts_add (slice_index q (cell_number n c)) in
        get_or-map g xs i c 0 (omega arith)
        ∙ ap g (get_or_from_slice_get xs i c c (slice_get-cells_of n some a i h))
        ∙ (let all : g c ≡ slice_index q (cell_number n c) = omega (arith, w 0 (omega arith), w 1 (omega arith), w 2 (omega arith), w 3 (omega arith), w 4 (omega arith), w 5 (omega arith), w 6 (omega arith), w 7 (omega arith)) in all)
        ∙ ap (slice_index q) (cell_number-cell_at n some a i h))
        ∙ sym (fill_by_all (slice_index q) q (n * n * n) 0 long (λ k l. refl))

  pub join_amounts-split_amounts : (fields : ℕ) (a : Cube) (amounts : List (List ℕ)) → length amounts ≡ fields → ((f : ℕ) (q : List ℕ) → slice_get amounts f ≡ Some q → length q ≡ n * n * n) → join_amounts n fields a (map (λ k. split_amounts n (child_of a k) amounts) (range_with_len 0 8)) ≡ amounts
  join_amounts-split_amounts fields a amounts l full =
      let blocks = map (λ k. split_amounts n (child_of a k) amounts) (range_with_len 0 8) in
      sym
      (fill_by_all (λ f. sums_of n a (map (λ b. slice_index_or b f []) blocks)) amounts fields [] l (λ f h.
      let q = get_or amounts f [] in
      sym
      (ap (sums_of n a)
      (map-map (λ b. slice_index_or b f []) (λ k. split_amounts n (child_of a k) amounts) (range_with_len 0 8)
      ∙ map-same (λ k. slice_index_or (split_amounts n (child_of a k) amounts) f []) (λ k. parts_of n (child_of a k) q) (range_with_len 0 8) (λ k. get_or-map (parts_of n (child_of a k)) amounts f [] [] (omega arith)))
      ∙ sums_of-parts_of a q (full f q (slice_get-get_or amounts f [] (omega arith))))))

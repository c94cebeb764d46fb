-- Adapting keeps totals: each old cell hands what it holds to cells of the new mesh, itself, its children or its
-- parent, and what a new cell gets is the old sample there.
use Rattle.std.proofs.Common.{◌≡◌, ℕ, ◌+◌, ◌<◌, cond, refl, sym, ap, ◌∙◌, arith, List, Some, slice_get, slice_index, sum_by, inl, inr}
use Rattle.std.proofs.lemmas.Bool.{cond-true, cond-false, cases_order}
use Rattle.block_index.specs.Places.{Cube, Grid, IsDomain, child_of, parent_of, child_number}
use Rattle.block_index.specs.declared.wish.Wish.{Wish}
use Rattle.leaf_set.specs.Meshes.{IsLeaf, IsMesh}
use Rattle.leaf_set.specs.MeshLaws.{HasDistinctLeaves}
use Rattle.leaf_set.specs.LevelRules.{IsSolution}
use Rattle.leaf_set.specs.NextMesh.{children_of, next_mesh}
use Rattle.leaf_set.specs.Origins.{Origin, split, kept, joined}
use Rattle.leaf_set.proofs.Containment.{child_number-child_of, parent_of-child_of, child_of-child_number, child_number_below}
use Rattle.leaf_set.proofs.MeshFacts.{leaves_distinct}
use Rattle.leaf_set.proofs.NextLeaves as next
use Rattle.leaf_set.proofs.NextLeaves.{leaf_after}
use Rattle.leaf_set.proofs.NextMeshes.{next_mesh-IsMesh}
use Rattle.leaf_set.proofs.Origins.{Origin-next_mesh, siblings_fall}
use Rattle.block_fields.specs.Cells.{block_of, cells, is_same, has_cell}
use Rattle.cello_num.specs.Parts.{part}
use Rattle.cello_num.proofs.PartSums.{parts_add}
use Rattle.block_fields.specs.States.{State, IsState, total, held}
use Rattle.block_fields.specs.Samples.{sample, has_coarser, adapted}
use Rattle.block_fields.proofs.Sums.{sum-add, sum-exchange}
use Rattle.block_fields.proofs.CellFacts.{Contains-block_of-child_of}
use Rattle.block_fields.proofs.CellSums.{cells-same}
use Rattle.block_fields.proofs.Totals.{total-filled, total-held}
use Rattle.block_fields.proofs.Families.{is_parent, same-sum, children-sum, parent-sum}
use Rattle.block_fields.proofs.CellSums.{sum-one_cell}
use Rattle.block_fields.proofs.Standings.{Standing, here, coarser, finer, all_children, no_children, stands_here, stands_coarser, stands_finer}

-- what a cell gets of its parent's amount
abbrev share : (Cube → ℕ) → Cube → ℕ
share q d = part (q (parent_of d)) (child_number d)

share_at : (q : Cube → ℕ) (c : Cube) (k : ℕ) → k < 8 → share q (child_of c k) ≡ part (q c) k
share_at q c k h = ap (λ p. part (q p) (child_number (child_of c k))) (parent_of-child_of c k h) ∙ ap (part (q c)) (child_number-child_of c k h)

-- the children's shares are the amount
shares : (q : Cube → ℕ) (c : Cube) → sum_by (share q) (children_of c) ≡ q c
shares q c =
    let h : (k : ℕ) → k < 8 → share q (child_of c k) ≡ part (q c) k = share_at q c in
    let p = parts_add (q c) in
    omega (arith, h 0 (omega arith), h 1 (omega arith), h 2 (omega arith), h 3 (omega arith), h 4 (omega arith), h 5 (omega arith), h 6 (omega arith), h 7 (omega arith))

-- what the old cell c hands to the new cell d
abbrev handed : (Cube → ℕ) → Cube → Cube → ℕ
handed q c d = cond (is_same c d) (q d) 0 + cond (is_parent c d) (share q d) 0 + cond (is_parent d c) (q c) 0

three_sums : {A : Type 0} (f g h : A → ℕ) (xs : List A) → sum_by (λ x. f x + g x + h x) xs ≡ sum_by f xs + sum_by g xs + sum_by h xs
three_sums f g h xs = sum-add (λ x. f x + g x) h xs ∙ ap (λ n. n + sum_by h xs) (sum-add f g xs)

module _ (n : ℕ) (some : 0 < n) (leaves : List Cube) (distinct : HasDistinctLeaves leaves) (q : Cube → ℕ) where
  -- all that c hands to the cells of a mesh
  handed-out : (c : Cube) → sum_by (handed q c) (cells n leaves) ≡ cond (has_cell n leaves c) (q c) 0 + sum_by (λ e. cond (has_cell n leaves e) (share q e) 0) (children_of c) + cond (has_coarser n leaves c) (q c) 0
  handed-out c =
      three_sums (λ d. cond (is_same c d) (q d) 0) (λ d. cond (is_parent c d) (share q d) 0) (λ d. cond (is_parent d c) (q c) 0) (cells n leaves)
      ∙ ap (λ k. k + sum_by (λ d. cond (is_parent c d) (share q d) 0) (cells n leaves) + sum_by (λ d. cond (is_parent d c) (q c) 0) (cells n leaves)) (same-sum n some leaves distinct c q)
      ∙ ap (λ k. cond (has_cell n leaves c) (q c) 0 + k + sum_by (λ d. cond (is_parent d c) (q c) 0) (cells n leaves)) (children-sum n some leaves distinct c (share q))
      ∙ ap (λ k. cond (has_cell n leaves c) (q c) 0 + sum_by (λ e. cond (has_cell n leaves e) (share q e) 0) (children_of c) + k) (parent-sum n some leaves distinct c (q c))

  -- all that d gets from the cells of a mesh
  handed-in : (d : Cube) → sum_by (λ c. handed q c d) (cells n leaves) ≡ cond (has_cell n leaves d) (q d) 0 + cond (has_coarser n leaves d) (share q d) 0 + sum_by (λ e. cond (has_cell n leaves e) (q e) 0) (children_of d)
  handed-in d =
      three_sums (λ c. cond (is_same c d) (q d) 0) (λ c. cond (is_parent c d) (share q d) 0) (λ c. cond (is_parent d c) (q c) 0) (cells n leaves)
      ∙ ap (λ k. k + sum_by (λ c. cond (is_parent c d) (share q d) 0) (cells n leaves) + sum_by (λ c. cond (is_parent d c) (q c) 0) (cells n leaves)) (sum-one_cell n some d (q d) leaves distinct)
      ∙ ap (λ k. cond (has_cell n leaves d) (q d) 0 + k + sum_by (λ c. cond (is_parent d c) (q c) 0) (cells n leaves)) (parent-sum n some leaves distinct d (share q d))
      ∙ ap (λ k. cond (has_cell n leaves d) (q d) 0 + cond (has_coarser n leaves d) (share q d) 0 + k) (children-sum n some leaves distinct d q)

  -- at a cell at which the mesh stands in one of the three ways, c hands out what it has
  hands_all : (c : Cube) → Standing n leaves c → sum_by (handed q c) (cells n leaves) ≡ q c
  hands_all c (here a b f) =
      omega (arith, handed-out c, cond-true (has_cell n leaves c) (q c) 0 a, cond-false (has_coarser n leaves c) (q c) 0 b, no_children n leaves c (share q) f)
  hands_all c (coarser a b f) =
      omega (arith, handed-out c, cond-false (has_cell n leaves c) (q c) 0 a, cond-true (has_coarser n leaves c) (q c) 0 b, no_children n leaves c (share q) f)
  hands_all c (finer a b f) =
      omega (arith, handed-out c, cond-false (has_cell n leaves c) (q c) 0 a, cond-false (has_coarser n leaves c) (q c) 0 b, all_children n leaves c (share q) f, shares q c)

  -- and d gets the sample there
  gets_sample : (d : Cube) → Standing n leaves d → sum_by (λ c. handed q c d) (cells n leaves) ≡ cond (has_cell n leaves d) (q d) (cond (has_coarser n leaves d) (share q d) (sum_by q (children_of d)))
  gets_sample d (here a b f) =
      omega (arith, handed-in d, cond-true (has_cell n leaves d) (q d) 0 a, cond-false (has_coarser n leaves d) (share q d) 0 b, no_children n leaves d q f, cond-true (has_cell n leaves d) (q d) (cond (has_coarser n leaves d) (share q d) (sum_by q (children_of d))) a)
  gets_sample d (coarser a b f) =
      omega (arith, handed-in d, cond-false (has_cell n leaves d) (q d) 0 a, cond-true (has_coarser n leaves d) (share q d) 0 b, no_children n leaves d q f, cond-false (has_cell n leaves d) (q d) (cond (has_coarser n leaves d) (share q d) (sum_by q (children_of d))) a, cond-true (has_coarser n leaves d) (share q d) (sum_by q (children_of d)) b)
  gets_sample d (finer a b f) =
      omega (arith, handed-in d, cond-false (has_cell n leaves d) (q d) 0 a, cond-false (has_coarser n leaves d) (share q d) 0 b, all_children n leaves d q f, cond-false (has_cell n leaves d) (q d) (cond (has_coarser n leaves d) (share q d) (sum_by q (children_of d))) a, cond-false (has_coarser n leaves d) (share q d) (sum_by q (children_of d)) b)

-- ---- how each mesh stands at the cells of the other

module _ (grid : Grid) (mesh : List Cube) (wishes : List Wish) (levels : List ℕ) (g : IsDomain grid) (m : IsMesh grid mesh) (s : IsSolution grid mesh wishes levels) (n : ℕ) where
  next_is_mesh : IsMesh grid (next_mesh mesh levels)
  next_is_mesh = next_mesh-IsMesh grid mesh levels g m s.one_each s.range s.lone s.siblings

  -- a child of a cell lies in a child of its block
  child_block : (c : Cube) (k : ℕ) → k < 8 → block_of n (child_of c k) ≡ child_of (block_of n c) (child_number (block_of n (child_of c k)))
  child_block c k h = sym (child_of-child_number (block_of n c) (block_of n (child_of c k)) (Contains-block_of-child_of n c k h))

  old_stands : (d : Cube) → IsLeaf (next_mesh mesh levels) (block_of n d) → Standing n mesh d
  old_stands d h = from (block_of n d) refl (Origin-next_mesh grid mesh levels s.range s.lone s.siblings (block_of n d) h)
    where
      from : (p : Cube) → p ≡ block_of n d → Origin mesh levels p → Standing n mesh d
      from p e (split i k a at l w f) =
          let up : parent_of (block_of n d) ≡ a = ap parent_of (sym e ∙ f) ∙ parent_of-child_of a k w in
          let lev : d.level ≡ a.level + 1 = ap (λ (c : Cube). c.level) (sym e ∙ f) in
          stands_coarser grid mesh g m n d (omega arith) (i, at ∙ ap Some (sym up))
      from p e (kept i at l) = stands_here grid mesh g m n d (i, at ∙ ap Some e)
      from p e (joined f) =
          stands_finer grid mesh g m n d (λ k w.
          let j = child_number (block_of n (child_of d k)) in
          let o = f j (child_number_below (block_of n (child_of d k))) in
          (o.0, o.1 ∙ ap (λ q. Some (child_of q j)) e ∙ ap Some (sym (child_block d k w))))

  new_stands : (i : ℕ) (c : Cube) → slice_get mesh i ≡ Some (block_of n c) → Standing n (next_mesh mesh levels) c
  new_stands i c at =
      elim (cases_order c.level (slice_index levels i)) [
        | inl same ↦
            stands_here grid (next_mesh mesh levels) g next_is_mesh n c (leaf_after mesh levels i (block_of n c) (block_of n c) s.one_each at (next.kept same refl))
        | inr r ↦
            elim r [
              | inl less ↦
                  stands_finer grid (next_mesh mesh levels) g next_is_mesh n c (λ k w.
                  leaf_after mesh levels i (block_of n c) (block_of n (child_of c k)) s.one_each at (next.split (child_number (block_of n (child_of c k))) (child_number_below (block_of n (child_of c k))) less (child_block c k w)))
              | inr more ↦
                  let b = siblings_fall grid mesh levels s.range s.lone s.siblings i (block_of n c) at more 0 (omega arith) in
                  let first = child_of (parent_of (block_of n c)) 0 in
                  stands_coarser grid (next_mesh mesh levels) g next_is_mesh n c (omega arith)
                  (leaf_after mesh levels b.0 first (parent_of (block_of n c)) s.one_each b.1
                  (next.joined (let e = b.2 in omega arith) (child_number-child_of (parent_of (block_of n c)) 0 (omega arith)) (sym (parent_of-child_of (parent_of (block_of n c)) 0 (omega arith)))))
            ]
      ]

-- ---- the law

pub total-adapted : (s : State) (wishes : List Wish) (levels : List ℕ) (f : ℕ) → IsState s → IsSolution s.grid s.leaves wishes levels → f < s.fields → total (adapted s levels) f ≡ total s f
total-adapted s wishes levels f w sol h =
    let n = s.edge in
    let some : 0 < s.edge = omega (arith, w.edge) in
    let q : Cube → ℕ = held s f in
    let old = cells n s.leaves in
    let new = cells n (next_mesh s.leaves levels) in
    let m2 : IsMesh s.grid (next_mesh s.leaves levels) = next_is_mesh s.grid s.leaves wishes levels w.domain w.mesh sol n in
    let old_once : HasDistinctLeaves s.leaves = leaves_distinct s.grid s.leaves w.domain w.mesh in
    let new_once : HasDistinctLeaves (next_mesh s.leaves levels) = leaves_distinct s.grid (next_mesh s.leaves levels) w.domain m2 in
    total-filled s.grid n s.fields (next_mesh s.leaves levels) (sample s) f h
    ∙ cells-same n (next_mesh s.leaves levels) (sample s f) (λ d. sum_by (λ c. handed q c d) old) some (λ i b d at e.
    sym (gets_sample n some s.leaves old_once q d (old_stands s.grid s.leaves wishes levels w.domain w.mesh sol n d (i, at ∙ ap Some (sym e)))))
    ∙ sum-exchange (λ d c. handed q c d) new old
    ∙ cells-same n s.leaves (λ c. sum_by (handed q c) new) q some (λ i b c at e.
    hands_all n some (next_mesh s.leaves levels) new_once q c (new_stands s.grid s.leaves wishes levels w.domain w.mesh sol n i c (at ∙ ap Some (sym e))))
    ∙ sym (total-held s f w h)

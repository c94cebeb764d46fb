-- No amount and no sample is above the field's total.
use Rattle.std.proofs.Common.{◌≡◌, ℕ, ◌%◌, ◌<◌, ◌≤◌, Bool, true, false, cond, nat_lt, refl, sym, ◌∙◌, arith, List, [], ◌∷◌, sum_by, inl, inr}
use Rattle.std.proofs.lemmas.Bool.{cond-true, cond-false, cases_Bool, cond_both}
use Rattle.std.proofs.lemmas.List.Sums.{sum_by-le-sum_by}
use Rattle.std.proofs.lemmas.Bool.Decides.{nat_tests}
use Rattle.block_index.specs.Places.{Cube, parent_of, child_number}
use Rattle.leaf_set.specs.MeshLaws.{HasDistinctLeaves}
use Rattle.leaf_set.specs.NextMesh.{children_of}
use Rattle.leaf_set.proofs.MeshFacts.{leaves_distinct}
use Rattle.block_fields.specs.Cells.{block_of, cells, is_same, has_cell}
use Rattle.cello_num.specs.Parts.{part}
use Rattle.block_fields.specs.States.{State, IsState, total, held, amount_in, field_of}
use Rattle.block_fields.specs.Samples.{sample, has_coarser}
use Rattle.block_fields.proofs.Sums.{sum-same}
use Rattle.block_fields.proofs.Families.{is_parent, children-sum, same-sum}
use Rattle.block_fields.proofs.Totals.{total-held}

-- a cell that no leaf holds has no amount
amount_in-none : (n : ℕ) (leaves : List Cube) (blocks : List (List ℕ)) (c : Cube) → has_cell n leaves c ≡ false → amount_in n leaves blocks c ≡ 0
amount_in-none n [] blocks c h = refl
amount_in-none n (b ∷ bs) [] c h = refl
amount_in-none n (b ∷ bs) (q ∷ qs) c h =
    elim (cases_Bool (is_same b (block_of n c))) [
      | inl t ↦ absurd (grind arith)
      | inr f ↦ let k : has_cell n bs c ≡ false = grind arith in cond-false (is_same b (block_of n c)) _ (amount_in n bs qs c) f ∙ amount_in-none n bs qs c k
    ]

module _ (s : State) (w : IsState s) (f : ℕ) (h : f < s.fields) where
  some : 0 < s.edge
  some = let e = w.edge in omega arith

  distinct : HasDistinctLeaves s.leaves
  distinct = leaves_distinct s.grid s.leaves w.domain w.mesh

  held-or_none : (c : Cube) → cond (has_cell s.edge s.leaves c) (held s f c) 0 ≡ held s f c
  held-or_none c =
      elim (cases_Bool (has_cell s.edge s.leaves c)) [
        | inl t ↦ cond-true (has_cell s.edge s.leaves c) (held s f c) 0 t
        | inr k ↦ cond-false (has_cell s.edge s.leaves c) (held s f c) 0 k ∙ sym (amount_in-none s.edge s.leaves (field_of s f) c k)
      ]

  at_most : (b : Bool) (x : ℕ) → cond b x 0 ≤ x
  at_most true x = omega arith
  at_most false x = omega arith

  pub held-most : (c : Cube) → held s f c ≤ total s f
  held-most c =
      let l = sum_by-le-sum_by (λ d. cond (is_same c d) (held s f d) 0) (held s f) (cells s.edge s.leaves) (λ d. at_most (is_same c d) (held s f d)) in
      omega (arith, same-sum s.edge some s.leaves distinct c (held s f), held-or_none c, total-held s f w h)

  pub children-most : (c : Cube) → sum_by (held s f) (children_of c) ≤ total s f
  children-most c =
      let l = sum_by-le-sum_by (λ d. cond (is_parent c d) (held s f d) 0) (held s f) (cells s.edge s.leaves) (λ d. at_most (is_parent c d) (held s f d)) in
      let e = sum-same (λ e. cond (has_cell s.edge s.leaves e) (held s f e) 0) (held s f) (children_of c) (λ i e k. held-or_none e) in
      omega (arith, children-sum s.edge some s.leaves distinct c (held s f), total-held s f w h)

  part-most : (q k : ℕ) → part q k ≤ q
  part-most q k = elim (cases_Bool (nat_lt k (q % 8))) [ inl t ↦ grind (arith, nat_tests) | inr n ↦ grind (arith, nat_tests) ]

  pub sample-most : (c : Cube) → sample s f c ≤ total s f
  sample-most c =
      cond_both (has_cell s.edge s.leaves c) (held s f c) (cond (has_coarser s.edge s.leaves c) (part (held s f (parent_of c)) (child_number c)) (sum_by (held s f) (children_of c))) (λ q. q ≤ total s f)
      (λ _. held-most c)
      (λ _. cond_both (has_coarser s.edge s.leaves c) (part (held s f (parent_of c)) (child_number c)) (sum_by (held s f) (children_of c)) (λ q. q ≤ total s f)
      (λ _. between (part (held s f (parent_of c)) (child_number c)) (held s f (parent_of c)) (total s f) (part-most (held s f (parent_of c)) (child_number c)) (held-most (parent_of c)))
      (λ _. children-most c))
    where
      between : (a b c : ℕ) → a ≤ b → b ≤ c → a ≤ c
      between a b c h k = omega arith

-- The sample at a cell by what holds it: a leaf, a coarser one or finer ones.
use Rattle.std.proofs.Common.{◌≡◌, ℕ, ◌<◌, cond, sym, ap, ◌∙◌, subst, arith, sum_by}
use Rattle.std.proofs.lemmas.Bool.{cond-true, cond-false}
use Rattle.block_index.specs.Places.{Cube, child_of, parent_of, child_number}
use Rattle.leaf_set.specs.Meshes.{IsLeaf}
use Rattle.leaf_set.specs.NextMesh.{children_of}
use Rattle.leaf_set.proofs.Containment.{parent_of-child_of, child_number-child_of}
use Rattle.block_fields.specs.Cells.{block_of, has_cell}
use Rattle.cello_num.specs.Parts.{part}
use Rattle.block_fields.specs.States.{State, IsState, held}
use Rattle.block_fields.specs.Samples.{sample, has_coarser}
use Rattle.block_fields.proofs.CellFacts.{leaf-has_cell, block_of-parent_of}
use Rattle.block_fields.proofs.Standings.{below_coarser, above_finer}

module _ (s : State) (f : ℕ) where
  pub sample-here : (c : Cube) → IsLeaf s.leaves (block_of s.edge c) → sample s f c ≡ held s f c
  sample-here c h =
      cond-true (has_cell s.edge s.leaves c) (held s f c) (cond (has_coarser s.edge s.leaves c) (part (held s f (parent_of c)) (child_number c)) (sum_by (held s f) (children_of c))) (leaf-has_cell s.edge s.leaves c h)

  pub sample-coarser : (c : Cube) → IsState s → 0 < c.level → IsLeaf s.leaves (parent_of (block_of s.edge c)) → sample s f c ≡ part (held s f (parent_of c)) (child_number c)
  sample-coarser c w l h =
      let p = below_coarser s.grid s.leaves w.domain w.mesh s.edge c l h in
      cond-false (has_cell s.edge s.leaves c) (held s f c) (cond (has_coarser s.edge s.leaves c) (part (held s f (parent_of c)) (child_number c)) (sum_by (held s f) (children_of c))) p.0
      ∙ cond-true (has_coarser s.edge s.leaves c) (part (held s f (parent_of c)) (child_number c)) (sum_by (held s f) (children_of c)) p.1

  pub sample-finer : (c : Cube) → IsState s → ((k : ℕ) → k < 8 → IsLeaf s.leaves (block_of s.edge (child_of c k))) → sample s f c ≡ sum_by (held s f) (children_of c)
  sample-finer c w h =
      let p = above_finer s.grid s.leaves w.domain w.mesh s.edge c h in
      cond-false (has_cell s.edge s.leaves c) (held s f c) (cond (has_coarser s.edge s.leaves c) (part (held s f (parent_of c)) (child_number c)) (sum_by (held s f) (children_of c))) p.0
      ∙ cond-false (has_coarser s.edge s.leaves c) (part (held s f (parent_of c)) (child_number c)) (sum_by (held s f) (children_of c)) p.1

  -- a child of a leaf's cell has its part of the cell's amount
  pub sample-child_of : (c : Cube) (k : ℕ) → IsState s → k < 8 → IsLeaf s.leaves (block_of s.edge c) → sample s f (child_of c k) ≡ part (held s f c) k
  sample-child_of c k w h leaf =
      let up : parent_of (block_of s.edge (child_of c k)) ≡ block_of s.edge c = sym (block_of-parent_of s.edge (child_of c k)) ∙ ap (block_of s.edge) (parent_of-child_of c k h) in
      sample-coarser (child_of c k) w (omega arith) (subst (IsLeaf s.leaves) (sym up) leaf)
      ∙ ap (λ p. part (held s f p) (child_number (child_of c k))) (parent_of-child_of c k h)
      ∙ ap (part (held s f c)) (child_number-child_of c k h)

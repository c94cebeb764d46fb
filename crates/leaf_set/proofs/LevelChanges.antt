-- From a mesh to the next no level changes by more than one: a new leaf and an old one that overlap differ by at
-- most one level.
use Rattle.std.proofs.Common.{◌≡◌, ℕ, zero, suc, ◌+◌, ◌-◌, ◌<◌, List, Some, slice_get, slice_index, sym, ap, ◌∙◌, subst, arith, inl, inr}
use Rattle.std.proofs.lemmas.Option.{same_Some}
use Rattle.block_index.specs.Places.{Cube, Grid, IsDomain, child_of}
use Rattle.leaf_set.specs.Meshes.{IsMesh}
use Rattle.leaf_set.specs.Origins.{Origin, split, kept, joined}
use Rattle.leaf_set.specs.LevelChanges.{Overlap, DifferByAtMostOne}
use Rattle.leaf_set.proofs.Containment.{Contains, Contains-self, Contains-same, Contains-trans, Contains-between, Contains-child, Contains-child_of, Contains-covers, covers-Contains}
use Rattle.leaf_set.proofs.MeshFacts.{leaves_apart}

-- a new leaf overlaps an old one whose level differs by at most one
pub Origin-near : (mesh : List Cube) (levels : List ℕ) (p : Cube) → Origin mesh levels p → (i : ℕ) × (a : Cube) × (slice_get mesh i ≡ Some a) × Overlap a p × DifferByAtMostOne a p
Origin-near mesh levels p (split i k a s d l e) =
    (i, a, s, inl (covers-Contains 1 a p (subst (Contains 1 a) (sym e) (Contains-child_of a k l))), subst (DifferByAtMostOne a) (sym e) (record { coarser = omega arith; finer = omega arith }))
Origin-near mesh levels p (kept i s d) = (i, p, s, inl (covers-Contains 0 p p (Contains-self p)), record { coarser = omega arith; finer = omega arith })
Origin-near mesh levels p (joined f) =
    let o = f 0 (omega arith) in
    (o.0, child_of p 0, o.1, inr (covers-Contains 1 p (child_of p 0) (Contains-child_of p 0 (omega arith))), record { coarser = omega arith; finer = omega arith })

child_differs : (a : Cube) (k : ℕ) → DifferByAtMostOne a (child_of a k)
child_differs a k = record { coarser = omega arith; finer = omega arith }

differs_back : (a c : Cube) → DifferByAtMostOne a c → DifferByAtMostOne c a
differs_back a c h = record { coarser = h.finer; finer = h.coarser }

module _ (grid : Grid) (mesh : List Cube) (levels : List ℕ) (g : IsDomain grid) (m : IsMesh grid mesh) where
  -- a leaf within a leaf is that leaf
  same_leaf : (i j d : ℕ) (a c : Cube) → slice_get mesh i ≡ Some a → slice_get mesh j ≡ Some c → Contains d a c → a ≡ c
  same_leaf i j d a c s t k = same_Some a c (sym s ∙ ap (slice_get mesh) (leaves_apart grid mesh g m i j d a c s t k) ∙ t)

  -- a leaf over a child of a leaf is that leaf, or the child
  over_child : (d i j k : ℕ) (a b : Cube) → slice_get mesh i ≡ Some a → slice_get mesh j ≡ Some b → k < 8 → Contains d a (child_of b k) → a ≡ b
  over_child zero i j k a b s t l h =
      sym (same_leaf j i 1 b a t s (subst (Contains 1 b) (sym (Contains-same a (child_of b k) h)) (Contains-child_of b k l)))
  over_child (suc d) i j k a b s t l h =
      same_leaf i j d a b s t
      (Contains-between d 1 a b (child_of b k) (subst (λ n. Contains n a (child_of b k)) (let e : suc d ≡ 1 + d = omega arith in e) h) (Contains-child_of b k l))

  -- a leaf within the parent of leaves is one of these
  within_parent : (d i : ℕ) (a p : Cube) → slice_get mesh i ≡ Some a → ((k : ℕ) → k < 8 → (j : ℕ) × (slice_get mesh j ≡ Some (child_of p k)) × (slice_index levels j ≡ p.level)) → Contains d p a → DifferByAtMostOne a p
  within_parent zero i a p s f h = subst (DifferByAtMostOne a) (sym (Contains-same p a h)) (record { coarser = omega arith; finer = omega arith })
  within_parent (suc d) i a p s f h =
      let c = Contains-child d p a (subst (λ n. Contains n p a) (let e : suc d ≡ d + 1 = omega arith in e) h) in
      let o = f c.0 c.1 in
      subst (λ q. DifferByAtMostOne q p) (same_leaf o.0 i d (child_of p c.0) a o.1 s c.2) (differs_back p (child_of p c.0) (child_differs p c.0))

  pub Overlap-DifferByAtMostOne : (i : ℕ) (a p : Cube) → slice_get mesh i ≡ Some a → Origin mesh levels p → Overlap a p → DifferByAtMostOne a p
  Overlap-DifferByAtMostOne i a p s (split j k b t d l e) (inl h) =
      let n = Contains-covers a p h in
      let same : a ≡ b = over_child (p.level - a.level) i j k a b s t l (subst (Contains (p.level - a.level) a) e n) in
      subst (λ q. DifferByAtMostOne q p) (sym same) (subst (DifferByAtMostOne b) (sym e) (child_differs b k))
  Overlap-DifferByAtMostOne i a p s (split j k b t d l e) (inr h) =
      let n = Contains-covers p a h in
      let up : Contains 1 b p = subst (Contains 1 b) (sym e) (Contains-child_of b k l) in
      let same : b ≡ a = same_leaf j i (a.level - p.level + 1) b a t s (Contains-trans 1 (a.level - p.level) b p a up n) in
      subst (λ q. DifferByAtMostOne q p) same (subst (DifferByAtMostOne b) (sym e) (child_differs b k))
  Overlap-DifferByAtMostOne i a p s (kept j t d) (inl h) =
      subst (λ q. DifferByAtMostOne q p) (sym (same_leaf i j (p.level - a.level) a p s t (Contains-covers a p h))) (record { coarser = omega arith; finer = omega arith })
  Overlap-DifferByAtMostOne i a p s (kept j t d) (inr h) =
      subst (λ q. DifferByAtMostOne q p) (same_leaf j i (a.level - p.level) p a t s (Contains-covers p a h)) (record { coarser = omega arith; finer = omega arith })
  Overlap-DifferByAtMostOne i a p s (joined f) (inl h) =
      let n = Contains-covers a p h in
      let o = f 0 (omega arith) in
      let low : Contains (1 + (p.level - a.level)) a (child_of p 0) = Contains-trans (p.level - a.level) 1 a p (child_of p 0) n (Contains-child_of p 0 (omega arith)) in
      let same : a ≡ child_of p 0 = same_leaf i o.0 (1 + (p.level - a.level)) a (child_of p 0) s o.1 low in
      subst (λ q. DifferByAtMostOne q p) (sym same) (differs_back p (child_of p 0) (child_differs p 0))
  Overlap-DifferByAtMostOne i a p s (joined f) (inr h) = within_parent (a.level - p.level) i a p s f (Contains-covers p a h)

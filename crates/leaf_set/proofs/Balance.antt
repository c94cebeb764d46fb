-- The next mesh of a mesh is balanced, for every solution of the level rules.
use Rattle.std.proofs.Common.{◌≡◌, ℕ, ◌+◌, ◌-◌, ◌≤◌, List, Some, slice_get, slice_index, sym, ap, ◌∙◌, subst, arith, inl, inr}
use Rattle.block_index.specs.Places.{Cube, Grid, IsDomain, child_of}
use Rattle.leaf_set.specs.Meshes.{IsMesh, IsBalanced}
use Rattle.leaf_set.specs.LevelRules.{KeepsRange, KeepsJump, KeepsLone, KeepsSiblings}
use Rattle.leaf_set.specs.NextMesh.{next_mesh}
use Rattle.leaf_set.specs.Origins.{Origin, split, kept, joined}
use Rattle.leaf_set.proofs.Containment.{Contains-child_of}
use Rattle.leaf_set.proofs.Spots.{finest_limit}
use Rattle.leaf_set.proofs.Leaves.{cube_cases}
use Rattle.leaf_set.proofs.MeshFacts.{leaves_distinct}
use Rattle.leaf_set.proofs.Origins.{Origin-next_mesh}
use Rattle.leaf_set.proofs.Boxes.{BoxesMeet, BoxesMeet-sym, BoxesMeet-Touches, Touches-BoxesMeet, BoxesMeet-Contains, BoxesMeet-child_of}

module _ (grid : Grid) (mesh : List Cube) (levels : List ℕ) (g : IsDomain grid) (m : IsMesh grid mesh) (range : KeepsRange grid mesh levels) where
  -- what meets a new leaf meets an old leaf that it comes from
  pub old_leaf : (p c : Cube) → Origin mesh levels p → BoxesMeet grid p c → (i : ℕ) × (b : Cube) × (slice_get mesh i ≡ Some b) × (slice_index levels i ≡ p.level) × BoxesMeet grid b c
  old_leaf p c (split i k a s d l e) h =
      let r = range i a s in
      let n : a.level + 1 ≤ 6 = omega (arith, r.1, g.finest) in
      (i, a, s, d ∙ ap (λ (q : Cube). q.level) (sym e), BoxesMeet-Contains grid 1 a (child_of a k) c (Contains-child_of a k l) n (subst (λ q. BoxesMeet grid q c) e h))
  old_leaf p c (kept i s d) h = (i, p, s, d, h)
  old_leaf p c (joined f) h =
      let first = f 0 (omega arith) in
      let n : p.level + 1 ≤ 6 = finest_limit grid (child_of p 0) g (m.inside first.0 (child_of p 0) first.1) in
      let b = BoxesMeet-child_of grid p c n h in
      let o = f b.0 b.1 in
      (o.0, child_of p b.0, o.1, o.2, b.2)

  module _ (jump : KeepsJump grid mesh levels) (lone : KeepsLone mesh levels) (siblings : KeepsSiblings mesh levels) where
    pub next_mesh-IsBalanced : IsBalanced grid (next_mesh mesh levels)
    next_mesh-IsBalanced i j p q s t touch =
        let first = old_leaf p q (Origin-next_mesh grid mesh levels range lone siblings p (i, s)) (BoxesMeet-Touches grid p q touch) in
        let b = first.1 in
        let second = old_leaf q b (Origin-next_mesh grid mesh levels range lone siblings q (j, t)) (BoxesMeet-sym grid b q first.4) in
        let c = second.1 in
        elim (cube_cases c b) [
          | inl same ↦
              let e : first.0 ≡ second.0 = leaves_distinct grid mesh g m first.0 second.0 b first.2 (second.2 ∙ ap Some same) in
              let d : slice_index levels first.0 ≡ slice_index levels second.0 = ap (slice_index levels) e in
              omega (arith, first.3, second.3)
          | inr apart ↦
              let d : slice_index levels first.0 - 1 ≤ slice_index levels second.0 = jump second.0 first.0 c b second.2 first.2 (Touches-BoxesMeet grid c b apart second.4) in
              omega (arith, first.3, second.3)
        ]

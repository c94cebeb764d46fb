-- Each leaf of the next mesh has an origin.
use Rattle.std.proofs.Common.{◌≡◌, ℕ, ◌-◌, ◌<◌, ◌≤◌, min, List, Some, slice_get, slice_index, sym, ap, ◌∙◌, arith, inl, inr}
use Rattle.block_index.specs.Places.{Cube, Grid, child_of, parent_of}
use Rattle.leaf_set.specs.Meshes.{IsLeaf}
use Rattle.leaf_set.specs.LevelRules.{KeepsRange, KeepsLone, KeepsSiblings, AreSiblings}
use Rattle.leaf_set.specs.NextMesh.{next_mesh}
use Rattle.leaf_set.specs.Origins.{Origin, split, kept, joined}
use Rattle.leaf_set.proofs.Containment.{parent_of-child_of}
use Rattle.leaf_set.proofs.Leaves.{find_leaf}
use Rattle.leaf_set.proofs.NextLeaves as next
use Rattle.leaf_set.proofs.NextLeaves.{LeftBy, leaf_before}

-- a leaf whose level falls has its seven siblings beside it, and theirs fall too
pub siblings_fall : (grid : Grid) (mesh : List Cube) (levels : List ℕ) → KeepsRange grid mesh levels → KeepsLone mesh levels → KeepsSiblings mesh levels → (i : ℕ) (a : Cube) → slice_get mesh i ≡ Some a → slice_index levels i < a.level → (k : ℕ) → k < 8 → (j : ℕ) × (slice_get mesh j ≡ Some (child_of (parent_of a) k)) × (slice_index levels j ≡ a.level - 1)
siblings_fall grid mesh levels range lone siblings i a e f k h =
    elim (find_leaf mesh (child_of (parent_of a) k)) [
      | inl m ↦ (m.0, m.1, falls m.0 m.1)
      | inr none ↦ absurd (let r : a.level ≤ slice_index levels i = lone i k a e (omega arith) h none in omega arith)
    ]
  where
    falls : (j : ℕ) → slice_get mesh j ≡ Some (child_of (parent_of a) k) → slice_index levels j ≡ a.level - 1
    falls j at =
        let p : parent_of (child_of (parent_of a) k) ≡ parent_of a = parent_of-child_of (parent_of a) k h in
        let s : AreSiblings a (child_of (parent_of a) k) = record { above_root = omega arith; same_level = omega arith; same_parent = p } in
        let r : min (slice_index levels j) a.level ≤ slice_index levels i = siblings i j a (child_of (parent_of a) k) e at s in
        let b = range j (child_of (parent_of a) k) at in
        omega (arith, b.0)

pub Origin-next_mesh : (grid : Grid) (mesh : List Cube) (levels : List ℕ) → KeepsRange grid mesh levels → KeepsLone mesh levels → KeepsSiblings mesh levels → (p : Cube) → IsLeaf (next_mesh mesh levels) p → Origin mesh levels p
Origin-next_mesh grid mesh levels range lone siblings p h =
    let m = leaf_before mesh levels p h.0 h.1 in
    from m.0 m.1 m.2 m.3
  where
    from : (i : ℕ) (a : Cube) → slice_get mesh i ≡ Some a → LeftBy a (slice_index levels i) p → Origin mesh levels p
    from i a e (next.split k l d f) = split i k a e (let r = range i a e in omega (arith, r.1)) l f
    from i a e (next.kept d f) = kept i (e ∙ ap Some (sym f)) (sym d ∙ ap (λ (q : Cube). q.level) (sym f))
    from i a e (next.joined d n f) =
        joined (λ k l.
        let s = siblings_fall grid mesh levels range lone siblings i a e d k l in
        (s.0, s.1 ∙ ap (λ q. Some (child_of q k)) (sym f), s.2 ∙ ap (λ (q : Cube). q.level) (sym f)))

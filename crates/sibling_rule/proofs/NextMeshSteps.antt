-- The next mesh, leaf by leaf.
use Rattle.std.proofs.Common.{◌≡◌, ℕ, zero, suc, ◌+◌, ◌<◌, ◌≤◌, List, [], ◌∷◌, ◌++◌, Some, length, drop, slice_get, slice_index, refl, sym, ap, subst, arith, add-one}
use Rattle.std.proofs.lemmas.Option.{same_Some, none-some}
use Rattle.block_index.specs.Places.{deepest, Cube}
use Rattle.leaf_set.specs.Meshes.{most_leaves}
use Rattle.leaf_set.specs.NextMesh.{leaves_after, next_mesh}
use Rattle.leaf_set.specs.Tiling.{Tiling, IsTiling}
use Rattle.leaf_set.proofs.NextMeshes.{next_mesh-IsMesh}
use Rattle.leaf_set.proofs.Balance.{next_mesh-IsBalanced}
use Rattle.leaf_set.proofs.LeafCounts.{length-IsMesh_limit}
use Rattle.sibling_rule.specs.Decided.{IsDecided}

next_mesh-drop_suc : (mesh : List Cube) (levels : List ℕ) (i : ℕ) (a : Cube) → slice_get mesh i ≡ Some a → i < length levels
    → next_mesh (drop i mesh) (drop i levels) ≡ leaves_after a (slice_index levels i) ++ next_mesh (drop (suc i) mesh) (drop (suc i) levels)
next_mesh-drop_suc [] levels i a s h = absurd (none-some a s)
next_mesh-drop_suc (c ∷ cs) [] i a s h = absurd (omega arith)
next_mesh-drop_suc (c ∷ cs) (d ∷ ds) zero a s h = ap (λ b. leaves_after b d ++ next_mesh cs ds) (same_Some c a s)
next_mesh-drop_suc (c ∷ cs) (d ∷ ds) (suc i) a s h = next_mesh-drop_suc cs ds i a s (omega arith)

-- what the leaves from i on leave is what the leaf at i leaves, and then what the later ones leave
pub next_mesh-drop : (mesh : List Cube) (levels : List ℕ) (i : ℕ) (a : Cube) → slice_get mesh i ≡ Some a → i < length levels
    → next_mesh (drop i mesh) (drop i levels) ≡ leaves_after a (slice_index levels i) ++ next_mesh (drop (i + 1) mesh) (drop (i + 1) levels)
next_mesh-drop mesh levels i a s h =
    subst (λ j. next_mesh (drop i mesh) (drop i levels) ≡ leaves_after a (slice_index levels i) ++ next_mesh (drop j mesh) (drop j levels))
    (sym (add-one i)) (next_mesh-drop_suc mesh levels i a s h)

pub next_mesh-drop_all : (mesh : List Cube) (levels : List ℕ) (i : ℕ) → i ≡ length mesh → next_mesh (drop i mesh) (drop i levels) ≡ []
next_mesh-drop_all [] levels zero h = refl
next_mesh-drop_all [] levels (suc i) h = absurd (omega arith)
next_mesh-drop_all (c ∷ cs) levels zero h = absurd (omega arith)
next_mesh-drop_all (c ∷ cs) [] (suc i) h = next_mesh-empty (drop i cs)
  where
    next_mesh-empty : (cs : List Cube) → next_mesh cs [] ≡ []
    next_mesh-empty [] = refl
    next_mesh-empty (c ∷ cs) = refl
next_mesh-drop_all (c ∷ cs) (d ∷ ds) (suc i) h = next_mesh-drop_all cs ds i (omega arith)

-- the next mesh is a balanced mesh
pub IsTiling-next_mesh : (t : Tiling) (levels : List ℕ) → IsTiling t → IsDecided t.grid t.places levels
    → IsTiling (record { grid = t.grid; places = next_mesh t.places levels })
IsTiling-next_mesh t levels h (wishes, s) = record {
  domain = h.domain;
  mesh = next_mesh-IsMesh t.grid t.places levels h.domain h.mesh s.one_each s.range s.lone s.siblings;
  balanced = next_mesh-IsBalanced t.grid t.places levels h.domain h.mesh s.range s.jump s.lone s.siblings;
}

pub length-next_mesh : (t : Tiling) (levels : List ℕ) → IsTiling t → IsDecided t.grid t.places levels → length (next_mesh t.places levels) ≤ most_leaves
length-next_mesh t levels h d =
    let n = IsTiling-next_mesh t levels h d in
    length-IsMesh_limit t.grid (next_mesh t.places levels) n.domain n.mesh

-- where a level rises, there is room for children
pub room_for_children : (t : Tiling) (levels : List ℕ) (i : ℕ) (a : Cube) → IsTiling t → IsDecided t.grid t.places levels
    → slice_get t.places i ≡ Some a → a.level < slice_index levels i → a.level < deepest
room_for_children t levels i a h (wishes, s) e l = let r = s.range i a e in omega (arith, r.1, h.domain.finest)

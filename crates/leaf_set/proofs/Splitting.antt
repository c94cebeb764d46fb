-- A mesh with one leaf split into its children is a mesh: meshes for tests, balanced or not.
use Rattle.std.proofs.Common.{◌≡◌, ℕ, zero, suc, ◌+◌, ◌<◌, ◌≤◌, min, List, [], ◌∷◌, ◌++◌, Some, length, map, take, drop, slice_get, slice_index, refl, sym, ap, ◌∙◌, subst, arith, inl, inr, append_assoc}
use Rattle.std.proofs.lemmas.Bool.{lt-ltb, le-ltb, eq-eqb, cases_eq}
use Rattle.std.proofs.lemmas.List.{length-map}
use Rattle.std.proofs.lemmas.Option.{none-some, same_Some}
use Rattle.block_index.specs.Places.{Cube, Grid, IsDomain}
use Rattle.leaf_set.specs.Meshes.{IsMesh}
use Rattle.leaf_set.specs.NextMesh.{children_of, leaves_after, next_mesh}
use Rattle.leaf_set.proofs.NextMeshes.{next_mesh-IsMesh}

-- the places with the one at `at` replaced by its children
split_at : List Cube → ℕ → List Cube
split_at [] at = []
split_at (c ∷ cs) zero = children_of c ++ cs
split_at (c ∷ cs) (suc at) = c ∷ split_at cs at

-- the levels of the places, one more at `at`
risen_at : List Cube → ℕ → List ℕ
risen_at [] at = []
risen_at (c ∷ cs) zero = (c.level + 1) ∷ map (λ (q : Cube). q.level) cs
risen_at (c ∷ cs) (suc at) = c.level ∷ risen_at cs at

leaves_after-rise : (c : Cube) → leaves_after c (c.level + 1) ≡ children_of c
leaves_after-rise c = rw (lt-ltb c.level (c.level + 1) (omega arith))

leaves_after-stay : (c : Cube) → leaves_after c c.level ≡ c ∷ []
leaves_after-stay c = rw (le-ltb c.level c.level (omega arith), eq-eqb c.level c.level refl)

next_mesh-same : (xs : List Cube) → next_mesh xs (map (λ (q : Cube). q.level) xs) ≡ xs
next_mesh-same [] = refl
next_mesh-same (c ∷ cs) = rw (leaves_after-stay c, next_mesh-same cs)

next_mesh-risen_at : (xs : List Cube) (at : ℕ) → next_mesh xs (risen_at xs at) ≡ split_at xs at
unfolding split_at risen_at
next_mesh-risen_at [] at = refl
next_mesh-risen_at (c ∷ cs) zero = rw (leaves_after-rise c, next_mesh-same cs)
next_mesh-risen_at (c ∷ cs) (suc at) = rw (leaves_after-stay c, next_mesh-risen_at cs at)

-- ---- the levels that a split asks

length-risen_at : (xs : List Cube) (at : ℕ) → length (risen_at xs at) ≡ length xs
unfolding risen_at
length-risen_at [] at = refl
length-risen_at (c ∷ cs) zero = ap suc (length-map cs (λ (q : Cube). q.level))
length-risen_at (c ∷ cs) (suc at) = ap suc (length-risen_at cs at)

level_at : (xs : List Cube) (i : ℕ) (a : Cube) → slice_get xs i ≡ Some a → slice_index (map (λ (q : Cube). q.level) xs) i ≡ a.level
level_at [] i a s = absurd (none-some a s)
level_at (c ∷ cs) zero a s = ap (λ (q : Cube). q.level) (same_Some c a s)
level_at (c ∷ cs) (suc i) a s = level_at cs i a s

risen_at-here : (xs : List Cube) (at : ℕ) (a : Cube) → slice_get xs at ≡ Some a → slice_index (risen_at xs at) at ≡ a.level + 1
unfolding risen_at
risen_at-here [] at a s = absurd (none-some a s)
risen_at-here (c ∷ cs) zero a s = ap (λ (q : Cube). q.level + 1) (same_Some c a s)
risen_at-here (c ∷ cs) (suc at) a s = risen_at-here cs at a s

risen_at-other : (xs : List Cube) (at i : ℕ) (a : Cube) → (i ≡ at → ⊥) → slice_get xs i ≡ Some a → slice_index (risen_at xs at) i ≡ a.level
unfolding risen_at
risen_at-other [] at i a n s = absurd (none-some a s)
risen_at-other (c ∷ cs) zero zero a n s = absurd (n refl)
risen_at-other (c ∷ cs) zero (suc i) a n s = level_at cs i a s
risen_at-other (c ∷ cs) (suc at) zero a n s = ap (λ (q : Cube). q.level) (same_Some c a s)
risen_at-other (c ∷ cs) (suc at) (suc i) a n s = risen_at-other cs at i a (λ e. n (ap suc e)) s

split_at-parts : (xs : List Cube) (at : ℕ) (a : Cube) → slice_get xs at ≡ Some a → split_at xs at ≡ take at xs ++ (children_of a ++ drop (suc at) xs)
unfolding split_at
split_at-parts [] at a s = absurd (none-some a s)
split_at-parts (c ∷ cs) zero a s = ap (λ q. children_of q ++ cs) (same_Some c a s)
split_at-parts (c ∷ cs) (suc at) a s = ap (λ qs. c ∷ qs) (split_at-parts cs at a s)

-- ---- the mesh

module _ (grid : Grid) (mesh : List Cube) (g : IsDomain grid) (m : IsMesh grid mesh) (at : ℕ) (a : Cube) (is : slice_get mesh at ≡ Some a) (room : a.level < grid.finest) where
  -- a level stays or rises by one, up to the finest
  stays_or_rises : (i : ℕ) (c : Cube) → slice_get mesh i ≡ Some c → (c.level ≤ slice_index (risen_at mesh at) i) × (slice_index (risen_at mesh at) i ≤ min (c.level + 1) grid.finest)
  stays_or_rises i c s =
      elim (cases_eq i at) [
        | inl same ↦
            let e : slice_index (risen_at mesh at) i ≡ a.level + 1 = subst (λ k. slice_index (risen_at mesh at) k ≡ a.level + 1) (sym same) (risen_at-here mesh at a is) in
            let q : c ≡ a = same_Some c a (sym s ∙ ap (slice_get mesh) same ∙ is) in
            let l : c.level ≡ a.level = ap (λ (r : Cube). r.level) q in
            (omega arith, omega arith)
        | inr other ↦
            let e = risen_at-other mesh at i c other s in
            let h = (m.inside i c s).level in
            (omega arith, omega arith)
      ]

  split_at-IsMesh : IsMesh grid (split_at mesh at)
  split_at-IsMesh =
      subst (IsMesh grid) (next_mesh-risen_at mesh at)
      (next_mesh-IsMesh grid mesh (risen_at mesh at) g m (length-risen_at mesh at)
      (λ i c s. let r = stays_or_rises i c s in (omega (arith, r.0), r.1))
      (λ i k c s h l n. (stays_or_rises i c s).0)
      (λ i j c d s t h. omega (arith, (stays_or_rises i c s).0)))

  -- the leaves before it, its children, and the leaves after it
  pub split-IsMesh : (children next : List Cube) → children ≡ children_of a → next ≡ take at mesh ++ children ++ drop (at + 1) mesh → IsMesh grid next
  split-IsMesh children next are e =
      subst (IsMesh grid)
      (split_at-parts mesh at a is ∙ ap (λ xs. take at mesh ++ (xs ++ drop (suc at) mesh)) (sym are) ∙ ap (λ n. take at mesh ++ (children ++ drop n mesh)) (let n : suc at ≡ at + 1 = omega arith in n)
      ∙ sym (append_assoc (take at mesh) children (drop (at + 1) mesh)) ∙ sym e)
      split_at-IsMesh

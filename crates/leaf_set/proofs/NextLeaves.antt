-- The leaves of the next mesh, one by one: what each leaf leaves, and where it stands.
use Rattle.std.proofs.Common.{◌≡◌, ℕ, zero, suc, ◌<◌, ◌≤◌, cond, nat_lt, ◌==◌, List, [], ◌∷◌, ◌++◌, Some, length, slice_get, slice_index, refl, sym, ap, ◌∙◌, subst, arith, ◌⊎◌, inl, inr}
use Rattle.std.proofs.lemmas.Bool.{cond_both, cond-true, cond-false, ltb-true, ltb-false, eqb-true, eqb-false, lt-ltb, le-ltb, eq-eqb, ne_eqb}
use Rattle.std.proofs.lemmas.Option.{same_Some, none-some}
use Rattle.block_index.specs.Places.{Cube, child_of, parent_of, child_number}
use Rattle.leaf_set.specs.Meshes.{IsLeaf}
use Rattle.leaf_set.specs.NextMesh.{children_of, leaves_after, next_mesh}

-- x is what the leaf a leaves at the new level d
pub data LeftBy (a : Cube) (d : ℕ) (x : Cube) : Type 0 where
  split : (k : ℕ) → k < 8 → a.level < d → x ≡ child_of a k → LeftBy a d x
  kept : a.level ≡ d → x ≡ a → LeftBy a d x
  joined : d < a.level → child_number a ≡ 0 → x ≡ parent_of a → LeftBy a d x

pub child_at : (c x : Cube) (i : ℕ) → slice_get (children_of c) i ≡ Some x → (i < 8) × (x ≡ child_of c i)
child_at c x zero e = (omega arith, sym (same_Some (child_of c 0) x e))
child_at c x (suc zero) e = (omega arith, sym (same_Some (child_of c 1) x e))
child_at c x (suc (suc zero)) e = (omega arith, sym (same_Some (child_of c 2) x e))
child_at c x (suc (suc (suc zero))) e = (omega arith, sym (same_Some (child_of c 3) x e))
child_at c x (suc (suc (suc (suc zero)))) e = (omega arith, sym (same_Some (child_of c 4) x e))
child_at c x (suc (suc (suc (suc (suc zero))))) e = (omega arith, sym (same_Some (child_of c 5) x e))
child_at c x (suc (suc (suc (suc (suc (suc zero)))))) e = (omega arith, sym (same_Some (child_of c 6) x e))
child_at c x (suc (suc (suc (suc (suc (suc (suc zero))))))) e = (omega arith, sym (same_Some (child_of c 7) x e))
child_at c x (suc (suc (suc (suc (suc (suc (suc (suc i)))))))) e = absurd (none-some x e)

pub slice_get-children_of : (c : Cube) (i : ℕ) → i < 8 → slice_get (children_of c) i ≡ Some (child_of c i)
slice_get-children_of c zero h = refl
slice_get-children_of c (suc zero) h = refl
slice_get-children_of c (suc (suc zero)) h = refl
slice_get-children_of c (suc (suc (suc zero))) h = refl
slice_get-children_of c (suc (suc (suc (suc zero)))) h = refl
slice_get-children_of c (suc (suc (suc (suc (suc zero))))) h = refl
slice_get-children_of c (suc (suc (suc (suc (suc (suc zero)))))) h = refl
slice_get-children_of c (suc (suc (suc (suc (suc (suc (suc zero))))))) h = refl
slice_get-children_of c (suc (suc (suc (suc (suc (suc (suc (suc i)))))))) h = absurd (omega arith)

one_at : (c x : Cube) (i : ℕ) → slice_get (c ∷ []) i ≡ Some x → x ≡ c
one_at c x zero e = sym (same_Some c x e)
one_at c x (suc i) e = absurd (none-some x e)

pub LeftBy-leaves_after : (a : Cube) (d : ℕ) (x : Cube) → IsLeaf (leaves_after a d) x → LeftBy a d x
LeftBy-leaves_after a d x =
    cond_both (nat_lt a.level d) (children_of a) (cond (a.level == d) (a ∷ []) (cond (child_number a == 0) (parent_of a ∷ []) []))
    (λ l. IsLeaf l x → LeftBy a d x)
    (λ t h. let m = child_at a x h.0 h.1 in split h.0 m.0 (ltb-true a.level d t) m.1)
    (λ f.
    cond_both (a.level == d) (a ∷ []) (cond (child_number a == 0) (parent_of a ∷ []) [])
    (λ l. IsLeaf l x → LeftBy a d x)
    (λ t h. kept (eqb-true a.level d t) (one_at a x h.0 h.1))
    (λ n.
    cond_both (child_number a == 0) (parent_of a ∷ []) []
    (λ l. IsLeaf l x → LeftBy a d x)
    (λ t h. joined (fall a.level d (ltb-false a.level d f) (eqb-false a.level d n)) (eqb-true (child_number a) 0 t) (one_at (parent_of a) x h.0 h.1))
    (λ _ h. absurd (none-some x h.1))))
  where
    fall : (l d : ℕ) → d ≤ l → (l ≡ d → ⊥) → d < l
    fall l d h n = omega arith

pub leaves_after-LeftBy : (a : Cube) (d : ℕ) (x : Cube) → LeftBy a d x → IsLeaf (leaves_after a d) x
leaves_after-LeftBy a d x (split k h l e) =
    subst (λ l. IsLeaf l x) (sym (cond-true (nat_lt a.level d) (children_of a) (cond (a.level == d) (a ∷ []) (cond (child_number a == 0) (parent_of a ∷ []) [])) (lt-ltb a.level d l)))
    (k, slice_get-children_of a k h ∙ ap Some (sym e))
leaves_after-LeftBy a d x (kept l e) =
    subst (λ l. IsLeaf l x)
    (sym
    (cond-false (nat_lt a.level d) (children_of a) (cond (a.level == d) (a ∷ []) (cond (child_number a == 0) (parent_of a ∷ []) [])) (le-ltb a.level d (omega arith))
    ∙ cond-true (a.level == d) (a ∷ []) (cond (child_number a == 0) (parent_of a ∷ []) []) (eq-eqb a.level d l)))
    (zero, ap Some (sym e))
leaves_after-LeftBy a d x (joined l n e) =
    subst (λ l. IsLeaf l x)
    (sym
    (cond-false (nat_lt a.level d) (children_of a) (cond (a.level == d) (a ∷ []) (cond (child_number a == 0) (parent_of a ∷ []) [])) (le-ltb a.level d (omega arith))
    ∙ cond-false (a.level == d) (a ∷ []) (cond (child_number a == 0) (parent_of a ∷ []) []) (ne_eqb a.level d (omega arith))
    ∙ cond-true (child_number a == 0) (parent_of a ∷ []) [] (eq-eqb (child_number a) 0 n)))
    (zero, ap Some (sym e))

-- ---- lists joined end to end

pub IsLeaf-append : (xs ys : List Cube) (x : Cube) (i : ℕ) → slice_get (xs ++ ys) i ≡ Some x → IsLeaf xs x ⊎ IsLeaf ys x
IsLeaf-append [] ys x i e = inr (i, e)
IsLeaf-append (y ∷ xs) ys x zero e = inl (zero, e)
IsLeaf-append (y ∷ xs) ys x (suc i) e =
    elim (IsLeaf-append xs ys x i e) [ inl h ↦ inl (suc h.0, h.1) | inr h ↦ inr h ]

pub append-left : (xs ys : List Cube) (x : Cube) (i : ℕ) → slice_get xs i ≡ Some x → IsLeaf (xs ++ ys) x
append-left [] ys x i e = absurd (none-some x e)
append-left (y ∷ xs) ys x zero e = (zero, e)
append-left (y ∷ xs) ys x (suc i) e = let h = append-left xs ys x i e in (suc h.0, h.1)

pub append-right : (xs ys : List Cube) (x : Cube) → IsLeaf ys x → IsLeaf (xs ++ ys) x
append-right [] ys x h = h
append-right (y ∷ xs) ys x h = let m = append-right xs ys x h in (suc m.0, m.1)

-- ---- the next mesh

pub leaf_before : (mesh : List Cube) (levels : List ℕ) (x : Cube) (n : ℕ) → slice_get (next_mesh mesh levels) n ≡ Some x → (i : ℕ) × (a : Cube) × (slice_get mesh i ≡ Some a) × LeftBy a (slice_index levels i) x
leaf_before [] levels x n e = absurd (none-some x e)
leaf_before (c ∷ cs) [] x n e = absurd (none-some x e)
leaf_before (c ∷ cs) (d ∷ ds) x n e =
    elim (IsLeaf-append (leaves_after c d) (next_mesh cs ds) x n e) [
      | inl h ↦ (zero, c, refl, LeftBy-leaves_after c d x h)
      | inr h ↦ let m = leaf_before cs ds x h.0 h.1 in (suc m.0, m.1, m.2, m.3)
    ]

pub leaf_after : (mesh : List Cube) (levels : List ℕ) (i : ℕ) (a x : Cube) → length levels ≡ length mesh → slice_get mesh i ≡ Some a → LeftBy a (slice_index levels i) x → IsLeaf (next_mesh mesh levels) x
leaf_after [] levels i a x l e h = absurd (none-some a e)
leaf_after (c ∷ cs) [] i a x l e h = absurd (omega arith)
leaf_after (c ∷ cs) (d ∷ ds) zero a x l e h =
    let m = leaves_after-LeftBy c d x (subst (λ q. LeftBy q d x) (sym (same_Some c a e)) h) in
    append-left (leaves_after c d) (next_mesh cs ds) x m.0 m.1
leaf_after (c ∷ cs) (d ∷ ds) (suc i) a x l e h =
    append-right (leaves_after c d) (next_mesh cs ds) x (leaf_after cs ds i a x (omega arith) e h)

-- Whether a place is a leaf can be decided.
use Rattle.std.proofs.Common.{◌≡◌, ℕ, zero, suc, List, [], ◌∷◌, Some, slice_get, ap, ◌⊎◌, inl, inr}
use Rattle.std.proofs.lemmas.Bool.{cases_eq}
use Rattle.std.proofs.lemmas.Option.{same_Some, none-some}
use Rattle.block_index.specs.Places.{Cube}
use Rattle.leaf_set.specs.Meshes.{IsLeaf}
use Rattle.leaf_set.proofs.Containment.{same_cube}

pub cube_cases : (a c : Cube) → (a ≡ c) ⊎ (a ≡ c → ⊥)
cube_cases a c =
    elim (cases_eq a.level c.level) [
      | inl l ↦
          elim (cases_eq a.x c.x) [
            | inl x ↦
                elim (cases_eq a.y c.y) [
                  | inl y ↦
                      elim (cases_eq a.z c.z) [
                        | inl z ↦ inl (same_cube a c l x y z)
                        | inr n ↦ inr (λ e. n (ap (λ (q : Cube). q.z) e))
                      ]
                  | inr n ↦ inr (λ e. n (ap (λ (q : Cube). q.y) e))
                ]
            | inr n ↦ inr (λ e. n (ap (λ (q : Cube). q.x) e))
          ]
      | inr n ↦ inr (λ e. n (ap (λ (q : Cube). q.level) e))
    ]

not_further : (a c : Cube) (rest : List Cube) → (a ≡ c → ⊥) → (IsLeaf rest c → ⊥) → (i : ℕ) → slice_get (a ∷ rest) i ≡ Some c → ⊥
not_further a c rest n m zero e = n (same_Some a c e)
not_further a c rest n m (suc i) e = m (i, e)

pub find_leaf : (mesh : List Cube) (c : Cube) → IsLeaf mesh c ⊎ (IsLeaf mesh c → ⊥)
find_leaf [] c = inr (λ h. none-some c h.1)
find_leaf (a ∷ rest) c =
    elim (cube_cases a c) [
      | inl e ↦ inl (zero, ap Some e)
      | inr n ↦
          elim (find_leaf rest c) [
            | inl h ↦ inl (suc h.0, h.1)
            | inr m ↦ inr (λ h. not_further a c rest n m h.0 h.1)
          ]
    ]

-- Whether places touch can be decided, and a search through a list for the first element that breaks a rule.
use Rattle.std.proofs.Common.{◌≡◌, ℕ, zero, suc, ◌+◌, ◌*◌, ◌<◌, Bool, List, [], ◌∷◌, Some, slice_get, refl, subst, arith, ◌⊎◌, inl, inr}
use Rattle.std.specs.Prelude.{IsTrue}
use Rattle.std.proofs.lemmas.Bool.{cases_lt, cases_eq, cases_Bool, both_ways}
use Rattle.std.proofs.lemmas.Option.{same_Some, none-some}
use Rattle.block_index.specs.Places.{Cube, Grid, parent_of}
use Rattle.block_index.specs.Touching.{width, MeetsOnAxis, Touches}
use Rattle.block_index.specs.Axes.{Meets}
use Rattle.leaf_set.specs.LevelRules.{AreSiblings}
use Rattle.leaf_set.proofs.Leaves.{cube_cases}

-- ---- places

meets_cases : (a w c v : ℕ) → Meets a w c v ⊎ (Meets a w c v → ⊥)
meets_cases a w c v =
    elim (cases_lt (c + v) a) [
      | inl less ↦ inr (λ h. let l = h.left in omega arith)
      | inr left ↦
          elim (cases_lt (a + w) c) [
            | inl less ↦ inr (λ h. let r = h.right in omega arith)
            | inr right ↦ inl (record { left = left; right = right })
          ]
    ]

neither : (trees : ℕ) (wraps : Bool) (a w c v : ℕ) → (Meets a w c v → ⊥) → (IsTrue wraps → Meets (a + trees * 64) w c v → ⊥) → (IsTrue wraps → Meets a w (c + trees * 64) v → ⊥) → MeetsOnAxis trees wraps a w c v → ⊥
neither trees wraps a w c v n l r (inl h) = n h
neither trees wraps a w c v n l r (inr (t, inl h)) = l t h
neither trees wraps a w c v n l r (inr (t, inr h)) = r t h

axis_cases : (trees : ℕ) (wraps : Bool) (a w c v : ℕ) → MeetsOnAxis trees wraps a w c v ⊎ (MeetsOnAxis trees wraps a w c v → ⊥)
axis_cases trees wraps a w c v =
    elim (meets_cases a w c v) [
      | inl h ↦ inl (inl h)
      | inr n ↦
          elim (cases_Bool wraps) [
            | inr f ↦ inr (neither trees wraps a w c v n (λ t h. both_ways wraps f t) (λ t h. both_ways wraps f t))
            | inl t ↦
                elim (meets_cases (a + trees * 64) w c v) [
                  | inl h ↦ inl (inr (t, inl h))
                  | inr l ↦
                      elim (meets_cases a w (c + trees * 64) v) [
                        | inl h ↦ inl (inr (t, inr h))
                        | inr r ↦ inr (neither trees wraps a w c v n (λ t h. l h) (λ t h. r h))
                      ]
                ]
          ]
    ]

pub touches_cases : (grid : Grid) (a c : Cube) → Touches grid a c ⊎ (Touches grid a c → ⊥)
touches_cases grid a c =
    elim (cube_cases a c) [
      | inl same ↦ inr (λ h. h.apart same)
      | inr apart ↦
          elim (axis_cases grid.trees_x grid.wraps_x (a.x * width a.level) (width a.level) (c.x * width c.level) (width c.level)) [
            | inr n ↦ inr (λ h. n h.on_x)
            | inl on_x ↦
                elim (axis_cases grid.trees_y grid.wraps_y (a.y * width a.level) (width a.level) (c.y * width c.level) (width c.level)) [
                  | inr n ↦ inr (λ h. n h.on_y)
                  | inl on_y ↦
                      elim (axis_cases grid.trees_z grid.wraps_z (a.z * width a.level) (width a.level) (c.z * width c.level) (width c.level)) [
                        | inr n ↦ inr (λ h. n h.on_z)
                        | inl on_z ↦ inl (record { apart = apart; on_x = on_x; on_y = on_y; on_z = on_z })
                      ]
                ]
          ]
    ]

pub siblings_cases : (a c : Cube) → AreSiblings a c ⊎ (AreSiblings a c → ⊥)
siblings_cases a c =
    elim (cases_lt a.level 1) [
      | inl root ↦ inr (λ h. let l = h.above_root in omega arith)
      | inr above ↦
          elim (cases_eq c.level a.level) [
            | inr n ↦ inr (λ h. n h.same_level)
            | inl level ↦
                elim (cube_cases (parent_of c) (parent_of a)) [
                  | inr n ↦ inr (λ h. n h.same_parent)
                  | inl parent ↦ inl (record { above_root = above; same_level = level; same_parent = parent })
                ]
          ]
    ]

-- ---- searches

-- each element keeps the rule P, or one gives a Q
pub each_or : {A : Type 0} (Q : Type 0) (xs : List A) (P : ℕ → A → Type 0) → ((i : ℕ) (x : A) → slice_get xs i ≡ Some x → P i x ⊎ Q) → ((i : ℕ) (x : A) → slice_get xs i ≡ Some x → P i x) ⊎ Q
each_or Q [] P h = inl (λ i x e. absurd (none-some x e))
each_or {A} Q (y ∷ ys) P h =
    elim (h zero y refl) [
      | inr q ↦ inr q
      | inl here ↦
          elim (each_or Q ys (λ i x. P (suc i) x) (λ i x e. h (suc i) x e)) [
            | inr q ↦ inr q
            | inl later ↦ inl (all here later)
          ]
    ]
  where
    all : P zero y → ((i : ℕ) (x : A) → slice_get ys i ≡ Some x → P (suc i) x) → (i : ℕ) (x : A) → slice_get (y ∷ ys) i ≡ Some x → P i x
    all here later zero x e = subst (P zero) (same_Some y x e) here
    all here later (suc i) x e = later i x e

-- each number below n keeps the rule P, or one gives a Q
pub each_below_or : (Q : Type 0) (n : ℕ) (P : ℕ → Type 0) → ((k : ℕ) → k < n → P k ⊎ Q) → ((k : ℕ) → k < n → P k) ⊎ Q
each_below_or Q zero P h = inl (λ k l. absurd (omega arith))
each_below_or Q (suc n) P h =
    elim (h n (omega arith)) [
      | inr q ↦ inr q
      | inl last ↦
          elim (each_below_or Q n P (λ k l. h k (omega arith))) [
            | inr q ↦ inr q
            | inl below ↦ inl (λ k l.
                elim (cases_lt k n) [
                  | inl less ↦ below k less
                  | inr more ↦ subst P (let e : n ≡ k = omega arith in e) last
                ])
          ]
    ]

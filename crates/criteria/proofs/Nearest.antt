-- The greatest and the least of three in a row, and of 27 cells.
use Rattle.std.proofs.Common.{◌≡◌, ◌⊎◌, ℕ, ◌+◌, ◌≤◌, max, min, refl, sym, ap, ◌∙◌, subst, arith, inl, inr, ℤ, pos}
use Rattle.std.proofs.Math.Nat.{le_trans}
use Rattle.criteria.specs.Cells.{IsNear, greatest_near, least_near, greatest_around, least_around}
use Rattle.criteria.specs.Samples.{FieldSamples, before}

module _ (q : ℤ → ℕ) (x : ℕ) where
  pub near-greatest : (u : ℤ) → IsNear x u → q u ≤ greatest_near q x
  near-greatest u (inl e) = subst (λ k. k ≤ greatest_near q x) (ap q (sym e)) (omega arith)
  near-greatest u (inr (inl e)) = subst (λ k. k ≤ greatest_near q x) (ap q (sym e)) (omega arith)
  near-greatest u (inr (inr e)) = subst (λ k. k ≤ greatest_near q x) (ap q (sym e)) (omega arith)

  pub near-least : (u : ℤ) → IsNear x u → least_near q x ≤ q u
  near-least u (inl e) = subst (λ k. least_near q x ≤ k) (ap q (sym e)) (omega arith)
  near-least u (inr (inl e)) = subst (λ k. least_near q x ≤ k) (ap q (sym e)) (omega arith)
  near-least u (inr (inr e)) = subst (λ k. least_near q x ≤ k) (ap q (sym e)) (omega arith)

one_of_three : (a b c : ℕ) → (max a (max b c) ≡ a) ⊎ ((max a (max b c) ≡ b) ⊎ (max a (max b c) ≡ c))
one_of_three a b c = grind arith

least_of_three : (a b c : ℕ) → (min a (min b c) ≡ a) ⊎ ((min a (min b c) ≡ b) ⊎ (min a (min b c) ≡ c))
least_of_three a b c = grind arith

module _ (q : ℤ → ℕ) (x : ℕ) where
  pub greatest-near : (u : ℤ) × (IsNear x u × (q u ≡ greatest_near q x))
  greatest-near =
      elim (one_of_three (q (before x)) (q (pos x)) (q (pos (x + 1)))) [
        | inl e ↦ (before x, (inl refl, sym e))
        | inr k ↦ elim k [
          | inl e ↦ (pos x, (inr (inl refl), sym e))
          | inr e ↦ (pos (x + 1), (inr (inr refl), sym e))
        ]
      ]

  pub least-near : (u : ℤ) × (IsNear x u × (q u ≡ least_near q x))
  least-near =
      elim (least_of_three (q (before x)) (q (pos x)) (q (pos (x + 1)))) [
        | inl e ↦ (before x, (inl refl, sym e))
        | inr k ↦ elim k [
          | inl e ↦ (pos x, (inr (inl refl), sym e))
          | inr e ↦ (pos (x + 1), (inr (inr refl), sym e))
        ]
      ]

module _ (s : FieldSamples) (x y z : ℕ) where
  pub around-greatest : (u v w : ℤ) → IsNear x u → IsNear y v → IsNear z w → s u v w ≤ greatest_around s x y z
  around-greatest u v w hu hv hw =
      let a = near-greatest (λ w. s u v w) z w hw in
      let b = near-greatest (λ v. greatest_near (λ w. s u v w) z) y v hv in
      let c = near-greatest (λ u. greatest_near (λ v. greatest_near (λ w. s u v w) z) y) x u hu in
      le_trans a (le_trans b c)

  pub around-least : (u v w : ℤ) → IsNear x u → IsNear y v → IsNear z w → least_around s x y z ≤ s u v w
  around-least u v w hu hv hw =
      let a = near-least (λ w. s u v w) z w hw in
      let b = near-least (λ v. least_near (λ w. s u v w) z) y v hv in
      let c = near-least (λ u. least_near (λ v. least_near (λ w. s u v w) z) y) x u hu in
      le_trans c (le_trans b a)

  pub greatest-around : (u : ℤ) × ((v : ℤ) × ((w : ℤ) × (IsNear x u × IsNear y v × IsNear z w × (s u v w ≡ greatest_around s x y z))))
  greatest-around =
      let a = greatest-near (λ u. greatest_near (λ v. greatest_near (λ w. s u v w) z) y) x in
      let b = greatest-near (λ v. greatest_near (λ w. s a.0 v w) z) y in
      let c = greatest-near (λ w. s a.0 b.0 w) z in
      (a.0, (b.0, (c.0, (a.1.0, b.1.0, c.1.0, c.1.1 ∙ b.1.1 ∙ a.1.1))))

  pub least-around : (u : ℤ) × ((v : ℤ) × ((w : ℤ) × (IsNear x u × IsNear y v × IsNear z w × (s u v w ≡ least_around s x y z))))
  least-around =
      let a = least-near (λ u. least_near (λ v. least_near (λ w. s u v w) z) y) x in
      let b = least-near (λ v. least_near (λ w. s a.0 v w) z) y in
      let c = least-near (λ w. s a.0 b.0 w) z in
      (a.0, (b.0, (c.0, (a.1.0, b.1.0, c.1.0, c.1.1 ∙ b.1.1 ∙ a.1.1))))
